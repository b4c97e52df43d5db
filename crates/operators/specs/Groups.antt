-- Operator lists and their groupings, over any operands, any operators and any levels.
use Rattle.std.specs.Prelude.{◌≡◌, ℕ, ◌<◌, ◌≤◌, cond, nat_lt}

module _ (Operand Op : Type 0) where
  -- an operand, and then operators, each with an operand behind it
  pub data Ops : Type 0 where
    lone : Operand → Ops
    then : Operand → Op → Ops → Ops

  -- one operator is chosen as top, and both sides are grouped likewise, down to lone operands
  pub data Group : Type 0 where
    leaf : Operand → Group
    top : Group → Op → Group → Group

module _ {Operand Op : Type 0} where
  -- two lists with an operator between them
  abbrev pub joined : Ops Operand Op → Op → Ops Operand Op → Ops Operand Op
  joined (lone a) o y = then a o y
  joined (then a p x) o y = then a p (joined x o y)

  -- the list that a grouping groups
  abbrev pub flat : Group Operand Op → Ops Operand Op
  flat (leaf a) = lone a
  flat (top l o r) = joined (flat l) o (flat r)

  -- P holds of each operator
  abbrev pub Each : (Op → Type 0) → Ops Operand Op → Type 0
  Each P (lone a) = Unit {0}
  Each P (then a o x) = P o × Each P x

  -- each further operator above all that stands before it: ((a o b) o c) o d
  abbrev pub from_left : Group Operand Op → Op → Ops Operand Op → Group Operand Op
  from_left g o (lone a) = top g o (leaf a)
  from_left g o (then a p x) = from_left (top g o (leaf a)) p x

  abbrev pub left_comb : Ops Operand Op → Group Operand Op
  left_comb (lone a) = leaf a
  left_comb (then a o x) = from_left (leaf a) o x

  module _ (level : Op → ℕ) where
    -- the precedence rule: at every top no operator on the left is weaker, and every one on the right is stronger
    abbrev pub Keeps : Group Operand Op → Type 0
    Keeps (leaf a) = Unit {0}
    Keeps (top l o r) =
        Each (λ p. level o ≤ level p) (flat l) × Each (λ p. level o < level p) (flat r) × Keeps l × Keeps r

    -- an operand and an operator in front of a grouping: above its top if weaker than that, else within its left side
    abbrev pub front : Operand → Op → Group Operand Op → Group Operand Op
    front a o (leaf b) = top (leaf a) o (leaf b)
    front a o (top l p r) =
        cond (nat_lt (level o) (level p)) (top (leaf a) o (top l p r)) (top (front a o l) p r)

    -- a list's grouping
    unfoldable pub grouped : Ops Operand Op → Group Operand Op
    grouped (lone a) = leaf a
    grouped (then a o x) = front a o (grouped x)

    -- a grouping of x that keeps the rule, and no other does
    pub record OneGrouping (x : Ops Operand Op) (group : Group Operand Op) : Type 0 where
      pub groups : flat group ≡ x
      pub keeps : Keeps group
      pub only : (h : Group Operand Op) → flat h ≡ x → Keeps h → h ≡ group
