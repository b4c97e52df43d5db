-- Slots to spare, and slots that are taken.
use Rattle.std.proofs.Common.{ℕ, ◌+◌, ◌^◌, ◌<◌, ◌∙◌, arith}
use Rattle.tree.specs.declared.place.Placer.{Placer}
use Rattle.reader.specs.declared.reader.Reader.{Reader}
use Rattle.reader.specs.Symbols.{Sym}
use Rattle.builder.specs.Builds.{Room}
use Rattle.builder.specs.Growth.{Grew}
use Rattle.builder.proofs.Steps.{Begun}

-- slots to spare are taken
pub grown : {A B : Type 0} {h : ℕ} (n k : ℕ) {N : Sym A} {M : Sym B} {κ : B → A} {p p₁ : Reader} {o o₁ o₂ : Placer} → Begun h (n + k) N M κ p o p₁ o₁ → Grew k o₁ o₂ → Begun h n N M κ p o p₁ o₂
grown n k b g =
    record {
      lent = record { slots = g.lent.slots ∙ b.lent.slots; text = g.lent.text ∙ b.lent.text };
      kept = b.kept;
      within = b.within;
      spent = record { count = omega (arith, b.spent.count, g.used); place = λ l. omega (arith, b.spent.place l, g.written) };
    }

-- there is room for what may still be read, and for one slot more
pub room_left : {A B : Type 0} {h : ℕ} (n : ℕ) {N : Sym A} {M : Sym B} {κ : B → A} {p p₁ : Reader} {o o₁ : Placer} → Room h p o → Begun h n N M κ p o p₁ o₁ → Room n p₁ o₁
room_left n r b = record { count = omega (arith, r.count, b.spent.count); place = b.spent.place r.place }

pub room_used : (n : ℕ) {p : Reader} {o : Placer} → Room n p o → o.used + 1 < 2 ^ 64
room_used n r = omega (arith, r.count)
