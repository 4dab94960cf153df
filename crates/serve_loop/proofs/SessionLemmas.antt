-- A connection from its turns.
use Rattle.std.proofs.Common.{◌≡◌, inl, ◌≤◌, ◌+◌, ℕ, List, [], ◌∷◌, ◌++◌, length, Option, refl, sym, ap, ◌∙◌, subst, arith, append_assoc, append-nil, length-append}
use Rattle.std.specs.Prelude.{Result}
use Rattle.http_wire.specs.Taking.{SourceView}
use Rattle.call_types.specs.declared.feed.Cut.{Cut}
use Rattle.desk_base.specs.Answering.{Task}
use Rattle.desk_base.specs.Telling.{Telling}
use Rattle.serve_loop.specs.Deeds.{Wires, wires, Answered, CountsStay, Moved}
use Rattle.serve_loop.specs.Exchanges.{Exchange, IsManner, all_bytes, all_texts, bytes_of, last_number, text_of}
use Rattle.serve_loop.specs.Sending.{SinkView}
use Rattle.serve_loop.specs.Session.{EndsSo, Run, Session}
use Rattle.serve_loop.specs.Turns.{TurnAnswers, TurnEnds}
use Rattle.serve_loop.specs.declared.ends.ConnectionEnd.{ConnectionEnd}
use Rattle.serve_loop.specs.declared.ends.ConnectionEnd.TheVariants.{NoMemory}
use Rattle.serve_loop.specs.declared.manner.Manner.TheVariants.{Stays}
use Rattle.serve_loop.proofs.HeadLemmas.{ends_later}
use Rattle.serve_loop.proofs.MovedLemmas.{counts_later, moved_later, moved_none}

bytes_more : (xs : List Exchange) (x : Exchange) → all_bytes (xs ++ x ∷ []) ≡ all_bytes xs ++ bytes_of x
bytes_more [] x = append-nil (bytes_of x)
bytes_more (y ∷ xs) x = ap (λ l. bytes_of y ++ l) (bytes_more xs x) ∙ sym (append_assoc (bytes_of y) (all_bytes xs) (bytes_of x))

texts_more : (xs : List Exchange) (x : Exchange) → all_texts (xs ++ x ∷ []) ≡ all_texts xs ++ text_of x
texts_more [] x = append-nil (text_of x)
texts_more (y ∷ xs) x = ap (λ l. text_of y ++ l) (texts_more xs x) ∙ sym (append_assoc (text_of y) (all_texts xs) (text_of x))

-- behind a request after which the next may be read
not_last : (number : ℕ) (x : Exchange) → IsManner number x.ask x.manner → x.manner ≡ Stays → number ≡ last_number → ⊥
not_last number x manner stays last = (subst (IsManner number x.ask) stays manner).0 (inl last)

module _ {M R : Type 0} (answers : Task → M → M → List ℕ → List Telling → Result R Cut → Type 0) (clock : Option ℕ) where
  run_more : (number last : ℕ) (xs : List Exchange) (x : Exchange) (a b c : M) → last ≡ number + length xs → Run answers clock number a xs b
      → Answered answers clock last b x c → x.manner ≡ Stays → Run answers clock number a (xs ++ x ∷ []) c
  run_more number last [] x a b c is run answered stays =
      (c, subst (λ n. Answered answers clock n a x c) (omega (arith, is)) (subst (λ m. Answered answers clock last m x c) (sym run) answered), stays, refl)
  run_more number last (y ∷ xs) x a b c is (mid, step, keeps, run) answered stays =
      (mid, step, keeps, run_more (number + 1) last xs x mid b c (omega (arith, is)) run answered stays)

  -- the requests so far were answered, as many as this number
  pub record SoFar (number : ℕ) (old now : M) (start here : Wires) : Type 0 where
    pub exchanges : List Exchange
    pub run : Run answers clock 0 old exchanges now
    pub moved : Moved (all_bytes exchanges) (all_texts exchanges) start here
    pub still : CountsStay start here
    pub many : number ≡ length exchanges

  pub so_far_none : (old : M) (source : SourceView) (sink : SinkView) (reads writes : ℕ) → SoFar 0 old old (wires source sink reads writes) (wires source sink reads writes)
  so_far_none old source sink reads writes = record {
    exchanges = [];
    run = refl;
    moved = moved_none source sink reads writes;
    still = (refl, refl);
    many = refl;
  }

  pub so_far_more : (number : ℕ) (old mid new : M) (start here there : Wires) → SoFar number old mid start here → TurnAnswers answers clock number [] mid new here there
      → SoFar (number + 1) old new start there
  so_far_more number old mid new start here there so_far turn =
      let xs = so_far.exchanges in
      record {
        exchanges = xs ++ turn.x ∷ [];
        run = run_more 0 number xs turn.x old mid new (omega (arith, so_far.many)) so_far.run turn.answered turn.stays;
        moved = subst (λ l. Moved l (all_texts (xs ++ turn.x ∷ [])) start there) (sym (bytes_more xs turn.x))
            (subst (λ t. Moved (all_bytes xs ++ bytes_of turn.x) t start there) (sym (texts_more xs turn.x))
            (moved_later (all_bytes xs) (bytes_of turn.x) (all_texts xs) (text_of turn.x) start here there so_far.moved
            (subst (λ l. Moved l (text_of turn.x) here there) (sym turn.is) turn.moved)));
        still = (turn.still.0 ∙ so_far.still.0, turn.still.1 ∙ so_far.still.1);
        many = omega (arith, so_far.many, length-append xs (turn.x ∷ []));
      }

  -- no request is read behind the last
  pub few_more : (number : ℕ) (mid new : M) (here there : Wires) → number ≤ 999999 → TurnAnswers answers clock number [] mid new here there → number + 1 ≤ 999999
  few_more number mid new here there few turn = below number few (not_last number turn.x turn.answered.is.manner turn.stays)
    where
      below : (n : ℕ) → n ≤ 999999 → (n ≡ 999999 → ⊥) → n + 1 ≤ 999999
      below n low never = search (arith, low, never)

  pub session_ended : (end : ConnectionEnd) (number : ℕ) (old mid new : M) (start here there : Wires) → SoFar number old mid start here
      → TurnEnds answers clock end number [] mid new here there → Session answers clock old new end start there
  session_ended end number old mid new start here there so_far turn = record {
    exchanges = so_far.exchanges;
    stop = mid;
    run = so_far.run;
    taken = turn.taken;
    out = turn.out;
    moved = moved_later (all_bytes so_far.exchanges) turn.taken (all_texts so_far.exchanges) turn.out start here there so_far.moved
        (subst (λ l. Moved l turn.out here there) (sym turn.is) turn.moved);
    ends = subst (λ n. EndsSo answers clock end n mid new turn.taken turn.out start there) so_far.many
        (ends_later answers clock end number mid new turn.taken turn.out start here there so_far.moved.reads so_far.moved.writes turn.ends);
    counts = counts_later end start here there so_far.still turn.counts;
  }

  -- a connection for which no memory was found
  pub session_none : (same : M) (source : SourceView) (sink : SinkView) (reads writes : ℕ) → Session answers clock same same NoMemory (wires source sink reads writes) (wires source sink reads writes)
  session_none same source sink reads writes = record {
    exchanges = [];
    stop = same;
    run = refl;
    taken = [];
    out = [];
    moved = moved_none source sink reads writes;
    ends = inl (refl, refl);
    counts = (refl, refl);
  }
