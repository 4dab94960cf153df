use Rattle.bucket_book.proofs.NameLemmas.{no_first, no_second, no_third, four_groups}
use Rattle.bucket_book.proofs.name.is_address.Goals as goal

pub returns-in_default : goal.returns-in_default
returns-in_default c = no_first c.args.name.now c.in_default.ensures.begins

pub returns-in_default-behind_group : goal.returns-in_default-behind_group
returns-in_default-behind_group c = no_second c.args.name.now c.in-Some.second.now c.in-Some.ensures.alone c.in_default-behind_group.ensures.begins

pub returns-in_default-behind_group-2 : goal.returns-in_default-behind_group-2
returns-in_default-behind_group-2 c =
    no_third c.args.name.now c.in-Some.second.now c.in-Some-behind_group.third.now c.in-Some.ensures.alone c.in-Some-behind_group.ensures.alone c.in_default-behind_group-2.ensures.begins

pub returns : goal.returns
returns c =
    four_groups c.args.name.now c.in-Some.second.now c.in-Some-behind_group.third.now c.in-Some-behind_group-2.fourth.now c.is_group.result
    c.in-Some.ensures.begins c.in-Some-behind_group.ensures.begins c.in-Some-behind_group-2.ensures.begins
    c.in-Some.ensures.alone c.in-Some-behind_group.ensures.alone c.in-Some-behind_group-2.ensures.alone
    c.is_group.ensures
