-- Counting siblings by their links.
use Rattle.std.proofs.Common.{◌≡◌, ℕ, zero, suc, ◌+◌, ◌-◌, ◌<◌, ◌≤◌, List, length, Some, None, Option, sym, refl, ap, ◌∙◌, subst, add-one, arith, MatchOption, Bor}
use Rattle.std.specs.Option.{option_map}
use Rattle.std.specs.Slice.{IsItemAt}
use Rattle.std.specs.List.{slice_get}
use Rattle.std.proofs.lemmas.Option.{slice_get-get_or}
use Rattle.tree.specs.declared.slot.Slot.{Slot}
use Rattle.tree.specs.Reads.{one_more, count_at, count_from, operands_at, operands_of, Siblings, Children}
use Rattle.tree.specs.Reads.Siblings.{stop, onward}

-- n more than the answer
abbrev pub plus : ℕ → Option ℕ → Option ℕ
plus n r = option_map (λ k. k + n) r

plus_one : (n : ℕ) (r : Option ℕ) → plus n (one_more r) ≡ plus (n + 1) r
plus_one n None = refl
plus_one n (Some k) = ap Some (omega arith)

from_step :
    (ss : List Slot) (room link m k : ℕ) (s : Slot) → room ≡ suc m → link ≡ suc k → slice_get ss k ≡ Some s →
    count_from ss room link ≡ one_more (count_from ss m s.next)
from_step ss room link m k s e f g = rw (e, f, g)

-- a slot that was found
pub found : {A : Type 0} (xs : List A) (n : ℕ) (x : Bor A) → IsItemAt xs n (Some x) → slice_get xs n ≡ Some x.now
found xs n x h = slice_get-get_or xs n x.now h.3.0 ∙ ap Some (sym h.1)

pub loop_step :
    (ss : List Slot) (n link : ℕ) (s : Slot) → n < length ss → (link ≡ 0 → ⊥) → slice_get ss (link - 1) ≡ Some s →
    plus n (count_from ss (length ss - n) link) ≡ plus (n + 1) (count_from ss (length ss - (n + 1)) s.next)
loop_step ss n link s b k e =
    ap (plus n) (from_step ss (length ss - n) link (length ss - (n + 1)) (link - 1) s (omega arith) (omega arith) e)
    ∙ plus_one n _

clash : {P : Type 0} (x : ℕ) → ◌≡◌ {A = Option ℕ} None (Some x) → P
clash x e = absurd (let z : ◌≡◌ {A = ℕ} 0 1 = cc in omega arith)

less : (o : Option ℕ) (n : ℕ) → one_more o ≡ Some n → (m : ℕ) × (o ≡ Some m) × (suc m ≡ n)
less None n e = clash n e
less (Some m) n e = (m, refl, let f : m + 1 ≡ n = cc in sym (add-one m) ∙ f)

module _ (ss : List Slot) where
  step :
      (room k n : ℕ) → ((l m : ℕ) → count_from ss room l ≡ Some m → Siblings ss l m × (m ≤ room)) → (o : Option Slot) →
      slice_get ss k ≡ o → count_at (count_from ss room) o ≡ Some n → Siblings ss (suc k) n × (n ≤ suc room)
  step room k n ih None t e = clash n e
  step room k n ih (Some s) t e =
      let u = less (count_from ss room s.next) n e in
      let r = ih s.next u.0 u.1 in
      (subst (λ v. Siblings ss (suc k) v) u.2 (onward t r.0), omega (arith, u.2, r.1))

  leads : (room link n : ℕ) → count_from ss room link ≡ Some n → Siblings ss link n × (n ≤ room)
  leads room zero n e = let f : 0 ≡ n = cc in (subst (λ v. Siblings ss zero v) f stop, omega (arith, f))
  leads zero (suc k) n e = clash n e
  leads (suc room) (suc k) n e = step room k n (λ l m f. leads room l m f) (slice_get ss k) refl e

  pub runs : (room : ℕ) {link n : ℕ} → Siblings ss link n → n ≤ room → count_from ss room link ≡ Some n
  runs room stop h = refl
  runs zero (onward {k} {n} {s} t l) h = absurd (omega arith)
  runs (suc room) (onward {k} {n} {s} t l) h = let f = runs room l (omega arith) in rw (t, f) (ap Some (add-one n))

  -- what is counted is what the links say
  counted :
      (number : ℕ) (o : Option Slot) → slice_get ss number ≡ o → (r : Option ℕ) → r ≡ operands_at ss o →
      MatchOption r ((n : ℕ) → Children ss number n → ⊥) (λ n. Children ss number n)
  counted number None t None e = λ n c. absurd (let z : ◌≡◌ {A = ℕ} 0 1 = cc (t, c.there) in omega arith)
  counted number None t (Some n) e = clash n (sym e)
  counted number (Some s) t None e =
      λ n c.
      let same : c.slot ≡ s = cc (t, c.there) in
      let up = ap (λ x. count_from ss (length ss) x.first) same in
      clash n (e ∙ sym up ∙ runs (length ss) c.siblings c.few)
  counted number (Some s) t (Some n) e =
      let r = leads (length ss) s.first n (sym e) in
      record { slot = s; there = t; siblings = r.0; few = r.1 }

pub meets :
    (ss : List Slot) (number : ℕ) (r : Option ℕ) → r ≡ operands_of ss number →
    MatchOption r ((n : ℕ) → Children ss number n → ⊥) (λ n. Children ss number n)
meets ss number r e = counted ss number (slice_get ss number) refl r e
