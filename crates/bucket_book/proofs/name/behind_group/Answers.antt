use Rattle.bucket_book.proofs.NameLemmas.{no_group, refuses_group, takes_group, takes_alone}
use Rattle.bucket_book.proofs.name.behind_group.Goals as goal

pub returns-in_default-clause-begins : goal.returns-in_default-clause-begins
returns-in_default-clause-begins c = λ rest b. no_group c.args.text.now rest c.in_default.ensures b

pub returns-then-not-is_group-clause-begins : goal.returns-then-not-is_group-clause-begins
returns-then-not-is_group-clause-begins c =
    refuses_group c.args.text.now c.split_at.result.0.now c.in-Some.at c.is_group.result c.in-Some.ensures c.split_at.ensures.front c.is_group.ensures c.if-not-is_group.true

pub returns-clause-begins : goal.returns-clause-begins
returns-clause-begins c =
    takes_group c.args.text.now c.split_at.result.0.now c.split_at-2.result.1.now c.in-Some.at c.is_group.result c.in-Some.ensures c.split_at.ensures.front c.split_at-2.ensures.back c.is_group.ensures c.if-not-is_group.false

pub returns-clause-alone : goal.returns-clause-alone
returns-clause-alone c = takes_alone c.args.text.now c.split_at-2.result.1.now c.in-Some.at c.in-Some.ensures c.split_at-2.ensures.back
