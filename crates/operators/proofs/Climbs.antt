-- The operator between two lists is the top where no operator on its left is weaker and every one on its right is stronger.
use Rattle.std.proofs.Common.{◌≡◌, ℕ, ◌+◌, ◌<◌, ◌≤◌, Bool, true, false, cond, sym, refl, ap, ◌∙◌, subst, arith}
use Rattle.operators.specs.Groups.{Ops, joined, flat, Each, grouped}
use Rattle.operators.specs.Groups.Ops.{lone}
use Rattle.operators.specs.Groups.Group.{top}
use Rattle.operators.specs.Merges.{Making, goes_on, join_trees, merged, tree_of, opened}
use Rattle.operators.specs.Claims.{Between, Climbs, Joins, Unchanged}
use Rattle.operators.proofs.Exists.{each_map, each_joined, flat_grouped, keeps_grouped, is_grouped}

module _ {A O : Type 0} (level : O → ℕ) where
  -- the right side is read with a bound one above the operator's level
  pub between : (x : Ops A O) (o : O) (y : Ops A O) → Each (λ p. level o ≤ level p) x → Each (λ p. level o + 1 ≤ level p) y → Between level x o y
  between x o y l r =
      record { left = l; right = each_map (λ p. level o + 1 ≤ level p) (λ p. level o < level p) (λ p s. omega arith) y r }

  pub group_joined : (x : Ops A O) (o : O) (y : Ops A O) → Between level x o y → grouped level (joined x o y) ≡ top (grouped level x) o (grouped level y)
  group_joined x o y b =
      let L : Ops A O → Type 0 = λ z. Each (λ p. level o ≤ level p) z in
      let R : Ops A O → Type 0 = λ z. Each (λ p. level o < level p) z in
      sym (is_grouped level (top (grouped level x) o (grouped level y)) (joined x o y)
      (ap (λ z. joined z o (flat (grouped level y))) (flat_grouped level x) ∙ ap (λ z. joined x o z) (flat_grouped level y))
      (subst L (sym (flat_grouped level x)) b.left, subst R (sym (flat_grouped level y)) b.right, keeps_grouped level x, keeps_grouped level y))

  pub climbs : (x : Ops A O) (o : O) (y : Ops A O) → Between level x o y → Climbs level x o y
  climbs x o y b =
      record {
        group = group_joined x o y b;
        next = λ p l. each_joined (λ q. level p ≤ level q) x o y (each_map (λ q. level o ≤ level q) (λ q. level p ≤ level q) (λ q s. omega arith) x b.left) l (each_map (λ q. level o < level q) (λ q. level p ≤ level q) (λ q s. omega arith) y b.right);
        least = λ n l e. each_joined (λ q. n ≤ level q) x o y e l (each_map (λ q. level o < level q) (λ q. n ≤ level q) (λ q s. omega arith) y b.right);
      }

module _ {Tree O : Type 0} (trees : Making Tree O) (level : O → ℕ) where
  pub in_steps : (o : O) (l r : Tree) → join_trees trees o l r ≡ trees.behind (opened trees o l) r
  in_steps o l r = go (goes_on trees o l)
    where
      go : (b : Bool) → cond b (trees.behind l r) (trees.behind (trees.above o l) r) ≡ trees.behind (cond b l (trees.above o l)) r
      go true = refl
      go false = refl

  pub tree_lone : (t : Tree) → tree_of trees level (lone t) ≡ t
  unfolding tree_of grouped
  tree_lone t = refl

  pub tree_joined : (x : Ops Tree O) (o : O) (y : Ops Tree O) → Between level x o y → tree_of trees level (joined x o y) ≡ join_trees trees o (tree_of trees level x) (tree_of trees level y)
  unfolding tree_of
  tree_joined x o y b = ap (λ g. merged trees g) (group_joined level x o y b)

  pub joins : (x : Ops Tree O) (o : O) (y : Ops Tree O) → Between level x o y → Joins trees level x o y
  joins x o y b =
      let whole = tree_joined x o y b in
      record { tree = whole; steps = whole ∙ in_steps o (tree_of trees level x) (tree_of trees level y) }

  pub unchanged : (x : Ops Tree O) (o : O) (y : Ops Tree O) → Between level x o y → Unchanged trees level x o y
  unchanged x o y b =
      let t : Tree = tree_of trees level x in
      let u : Tree = tree_of trees level y in
      let whole = tree_joined x o y b in
      record {
        left = tree_joined (lone t) o y (record { left = tt; right = b.right }) ∙ ap (λ v. join_trees trees o v u) (tree_lone t) ∙ sym whole;
        right = tree_joined x o (lone u) (record { left = b.left; right = tt }) ∙ ap (λ v. join_trees trees o t v) (tree_lone u) ∙ sym whole;
      }
