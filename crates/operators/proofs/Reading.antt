-- For a loop that reads an operator list from the left and keeps the tree of what it has read.
use Rattle.std.proofs.Common.{◌≡◌, ℕ, ◌+◌, ◌<◌, ◌≤◌, sym, ap, ◌∙◌, arith}
use Rattle.operators.specs.Groups.{Ops, joined, Each}
use Rattle.operators.specs.Groups.Ops.{lone}
use Rattle.operators.specs.Merges.{Making, tree_of, opened}
use Rattle.operators.proofs.Climbs.{between, climbs, tree_lone, joins}

module _ {Tree O : Type 0} (trees : Making Tree O) (level : O → ℕ) where
  -- a list of operators that have at least some level, and its tree
  pub record Read (least : ℕ) (x : Ops Tree O) (t : Tree) : Type 0 where
    pub strong : Each (λ o. least ≤ level o) x
    pub tree : t ≡ tree_of trees level x

  pub read_lone : (least : ℕ) (t : Tree) → Read least (lone t) t
  read_lone least t = record { strong = tt; tree = sym (tree_lone trees level t) }

  -- an operator that is not stronger than those read, and what is read behind it one level above its own
  pub read_more : (least : ℕ) (x : Ops Tree O) (t : Tree) (o : O) (y : Ops Tree O) (u : Tree) → Read least x t → least ≤ level o → Each (λ p. level o ≤ level p) x → Read (level o + 1) y u → Read least (joined x o y) (trees.behind (opened trees o t) u)
  read_more least x t o y u r l e s =
      let b = between level x o y e s.strong in
      record {
        strong = (climbs level x o y b).least least l r.strong;
        tree = ap (λ v. trees.behind (opened trees o v) u) r.tree ∙ ap (λ v. trees.behind (opened trees o (tree_of trees level x)) v) s.tree ∙ sym (joins trees level x o y b).steps;
      }

  -- where the right side ended in front of p, no operator read so far is weaker than p
  pub read_next : (x : Ops Tree O) (o : O) (y : Ops Tree O) (u : Tree) (p : O) → Each (λ q. level o ≤ level q) x → Read (level o + 1) y u → level p < level o + 1 → Each (λ q. level p ≤ level q) (joined x o y)
  read_next x o y u p e s l = (climbs level x o y (between level x o y e s.strong)).next p (omega arith)
