-- A list that stands within another from an index on.
use Rattle.std.proofs.Common.{◌≡◌, ℕ, ◌+◌, ◌-◌, true, cond, ◌&&◌, leb, List, [], ◌∷◌, ◌++◌, length, take, drop, Some, None, sym, refl, ap, ◌∙◌, arith, length-append, le-leb}
use Rattle.std.proofs.lemmas.List.{append-nil, append_assoc, take_at, drop_at}
use Rattle.std.specs.List.{slice_get}
use Rattle.syntax.specs.Spans.{span_of}
use Rattle.tree.specs.Parts.{cut}

pub record Within {A : Type 0} (xs : List A) (b : ℕ) (ys : List A) : Type 0 where
  pub before : List A
  pub after : List A
  pub is : xs ≡ before ++ (ys ++ after)
  pub far : length before ≡ b

-- the first part of what stands there, and the part behind it
pub within_first : {A : Type 0} (xs : List A) (b : ℕ) (ys zs : List A) → Within xs b (ys ++ zs) → Within xs b ys
within_first xs b ys zs w =
    record {
      before = w.before;
      after = zs ++ w.after;
      is = w.is ∙ ap (λ l. w.before ++ l) (append_assoc ys zs w.after);
      far = w.far;
    }

pub within_later :
    {A : Type 0} (xs : List A) (b c : ℕ) (ys zs : List A) → c ≡ b + length ys → Within xs b (ys ++ zs) → Within xs c zs
within_later xs b c ys zs e w =
    record {
      before = w.before ++ ys;
      after = w.after;
      is =
          w.is ∙ ap (λ l. w.before ++ l) (append_assoc ys zs w.after) ∙ sym (append_assoc w.before ys (zs ++ w.after));
      far = length-append w.before ys ∙ omega (arith, w.far, e);
    }

at_front : {A : Type 0} (ys : List A) (x : A) (zs : List A) → slice_get (ys ++ (x ∷ zs)) (length ys) ≡ Some x
at_front [] x zs = refl
at_front (y ∷ ys) x zs = at_front ys x zs

pub within_at : {A : Type 0} (xs : List A) (b : ℕ) (x : A) (ys : List A) → Within xs b (x ∷ ys) → slice_get xs b ≡ Some x
within_at xs b x ys w =
    ap (λ n. slice_get xs n) (sym w.far) ∙ ap (λ l. slice_get l (length w.before)) w.is
    ∙ at_front w.before x (ys ++ w.after)

-- the bytes at their place
pub within_cut : (xs : List ℕ) (b : ℕ) (ys : List ℕ) → Within xs b ys → cut xs (span_of b (b + length ys)) ≡ Some ys
within_cut xs b ys w =
    let long = ap length w.is ∙ length-append w.before (ys ++ w.after) in
    let in_front : leb b (b + length ys) ≡ true = le-leb b (b + length ys) (omega arith) in
    let in_back : leb (b + length ys) (length xs) ≡ true =
    le-leb (b + length ys) (length xs) (omega (arith, long, length-append ys w.after, w.far)) in
    let part : take ((b + length ys) - b) (drop b xs) ≡ ys =
    ap (λ l. take ((b + length ys) - b) (drop b l)) w.is
    ∙ ap (λ l. take ((b + length ys) - b) l) (drop_at w.before (ys ++ w.after) b w.far)
    ∙ take_at ys w.after ((b + length ys) - b) (omega arith) in
    ap (λ t. cond (t && leb (b + length ys) (length xs)) (Some (take ((b + length ys) - b) (drop b xs))) None) in_front
    ∙ ap (λ t. cond t (Some (take ((b + length ys) - b) (drop b xs))) None) in_back
    ∙ ap Some part

-- a list within itself
pub within_whole : {A : Type 0} (xs : List A) → Within xs 0 xs
within_whole xs = record { before = []; after = []; is = sym (append-nil xs); far = refl }
