-- A kind and its number determine each other, and `==` on kinds, which is derived, compares their numbers.
use Rattle.std.proofs.Common.{◌≡◌, Bool, true, false, Some, sym, refl, ap, ◌∙◌, rules, eq-eqb, eqb-true}
use denote.Enum.Bare.{true_same, false_same}
use Rattle.tree.specs.Kinds.{kind_of, number_of, same}
use Rattle.tree.specs.declared.node.NodeKind.{NodeKind}
use Rattle.tree.specs.contracts.node.NodeKind.{the_type}
use Rattle.tree.specs.contracts.node.NodeKindPartialEq.TheImpl.{ghosts}

pub kind_of_number : (k : NodeKind) → kind_of (number_of k) ≡ Some k
kind_of_number k = search rules

pub number_same : (a b : NodeKind) → number_of a ≡ number_of b → a ≡ b
number_same a b e =
    let same : Some a ≡ Some b = sym (kind_of_number a) ∙ ap kind_of e ∙ kind_of_number b in cc

decided : (a b : NodeKind) (s : Bool) → same a b ≡ s → ghosts.eq a b ≡ s
decided a b true e = true_same the_type a b (number_same a b (eqb-true (number_of a) (number_of b) e))
decided a b false e = false_same the_type tt a b (λ p. let t : false ≡ true = sym e ∙ eq-eqb (number_of a) (number_of b) (ap number_of p) in cc)

pub eq_is_same : (a b : NodeKind) → ghosts.eq a b ≡ same a b
eq_is_same a b = decided a b (same a b) refl
