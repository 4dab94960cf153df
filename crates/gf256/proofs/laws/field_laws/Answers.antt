use Rattle.std.proofs.lemmas.Nat.{xor_comm, xor_of_8}
use Rattle.gf256.proofs.Products.{product-lt, product-comm, product-assoc, product-one_right, product-xor_right, product-zero_right}
use Rattle.gf256.proofs.TableLemmas.{logarithm_of}
use Rattle.gf256.proofs.Remainders.{product-multiple}
use Rattle.gf256.proofs.Inverses.{inverse, inverse-unique}
use Rattle.gf256.proofs.laws.field_laws.Goals as goal

pub returns-clause-closed : goal.returns-clause-closed
returns-clause-closed c = product-lt

pub returns-clause-associative : goal.returns-clause-associative
returns-clause-associative c = product-assoc

pub returns-clause-commutative : goal.returns-clause-commutative
returns-clause-commutative c = product-comm

pub returns-clause-distributive : goal.returns-clause-distributive
returns-clause-distributive c = product-xor_right

pub returns-clause-one : goal.returns-clause-one
returns-clause-one c = product-one_right

pub returns-clause-zero : goal.returns-clause-zero
returns-clause-zero c = product-zero_right

pub returns-clause-invertible : goal.returns-clause-invertible
returns-clause-invertible c = inverse

pub returns-clause-one_inverse : goal.returns-clause-one_inverse
returns-clause-one_inverse c = inverse-unique

pub returns-clause-sum_closed : goal.returns-clause-sum_closed
returns-clause-sum_closed c = xor_of_8

pub returns-clause-sum_commutative : goal.returns-clause-sum_commutative
returns-clause-sum_commutative c = xor_comm

pub returns-clause-generator : goal.returns-clause-generator
returns-clause-generator c = logarithm_of

pub returns-clause-reduced : goal.returns-clause-reduced
returns-clause-reduced c = product-multiple
