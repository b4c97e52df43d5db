-- `==` on kinds, which is derived, compares their numbers.
use Rattle.std.proofs.Common.{◌≡◌, ℕ, Bool, true, false, sym, refl, ap, ◌∙◌, arith, eq-eqb, eqb-true}
use denote.Enum.Bare.{true_same, false_same}
use Rattle.kinds.specs.Kinds.{number_of, same}
use Rattle.kinds.specs.declared.kind.SyntaxKind.{SyntaxKind}
use Rattle.kinds.specs.contracts.kind.SyntaxKind.{the_type}
use Rattle.kinds.specs.contracts.kind.SyntaxKindPartialEq.TheImpl.{ghosts}
use Rattle.kinds.proofs.Inverse.{number_same}

decided : (a b : SyntaxKind) (s : Bool) → same a b ≡ s → ghosts.eq a b ≡ s
decided a b true e = true_same the_type a b (number_same a b (eqb-true (number_of a) (number_of b) e))
decided a b false e = false_same the_type tt a b (λ p. let t : false ≡ true = sym e ∙ eq-eqb (number_of a) (number_of b) (ap number_of p) in let z : ◌≡◌ {A = ℕ} 0 1 = cc in omega arith)

pub eq_is_same : (a b : SyntaxKind) → ghosts.eq a b ≡ same a b
eq_is_same a b = decided a b (same a b) refl
