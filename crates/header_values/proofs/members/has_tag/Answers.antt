use Rattle.std.proofs.Common.{◌≡◌, true, get_or, sym, ap, ◌∙◌, arith, inl, inr}
use Rattle.std.specs.List.{list_any}
use Rattle.header_values.specs.EntityTags.{is_tag, members_of}
use Rattle.header_values.proofs.MemberLemmas.{comma_keeps, at_quote, at_other}
use Rattle.header_values.proofs.members.has_tag.Goals as goal
use Rattle.header_values.proofs.members.has_tag.Goals.{then-byte-eq44+then-not-quoted+else-is_tag, else-byte-eq44+then-byte-eq34, else-byte-eq44+else-byte-eq34}

pub loop-i-preserved : goal.loop-i-preserved
loop-i-preserved c =
    elim c.if-byte-eq44.branch [
      | then-byte-eq44+then-not-quoted+else-is_tag w ↦
          let fails = sym w.is_tag.ensures ∙ w.if-is_tag.false in
          rw (w.start-is, w.quoted-is) (
            omega arith,
            comma_keeps c.args.tag.now c.args.value.now c.loop-i.quoted c.loop-i.start c.loop-i.i (list_any (is_tag c.args.tag.now) (members_of c.args.value.now))
                c.loop-i-test.true w.if-byte-eq44.true w.if-not-quoted.true fails c.loop-i.invariant.1,
          )
      | else-byte-eq44+then-byte-eq34 w ↦
          rw (w.start-is, w.quoted-is) (
            omega arith,
            c.loop-i.invariant.1
                ∙ ap (list_any (is_tag c.args.tag.now)) (at_quote c.loop-i.quoted c.args.value.now c.loop-i.start c.loop-i.i c.loop-i.invariant.0 c.loop-i-test.true w.if-byte-eq34.true),
          )
      | else-byte-eq44+else-byte-eq34 w ↦
          let inside : get_or c.args.value.now c.loop-i.i 0 ≡ 44 → c.loop-i.quoted ≡ true
          = λ comma. elim w.else-byte-eq44.either [ inl both ↦ both.1 | inr another ↦ absurd (another comma) ] in
          rw (w.start-is, w.quoted-is) (
            omega arith,
            c.loop-i.invariant.1
                ∙ ap (list_any (is_tag c.args.tag.now)) (at_other c.loop-i.quoted c.args.value.now c.loop-i.start c.loop-i.i c.loop-i.invariant.0 c.loop-i-test.true w.if-byte-eq34.false inside),
          )
    ]
