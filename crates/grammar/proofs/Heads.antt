use Rattle.std.proofs.Common.{◌≡◌, ℕ, Bool, true, false, not, ◌||◌, T, eqb, ◌∷◌, is_some, refl, ap, ◌∙◌, eq-eqb}
use mathlib.Core.Path.{path_j}
use Rattle.operators.specs.Levels.{level_of}
use Rattle.syntax.specs.declared.span.Span.{Span}
use Rattle.syntax.specs.declared.event.Event.{Event}
use Rattle.syntax.specs.declared.event.Event.TheVariants.{Error, Begin, End, Token}
use Rattle.kinds.specs.declared.kind.SyntaxKind.{SyntaxKind}
use Rattle.kinds.specs.Kinds.{number_of}
use Rattle.grammar.specs.Words.{Word, Operator}

pub heads : {a b : Event} {u v : Word} → ◌≡◌ {A = Word} (a ∷ u) (b ∷ v) → a ≡ b
heads e = cc

pub tails : {a b : Event} {u v : Word} → ◌≡◌ {A = Word} (a ∷ u) (b ∷ v) → u ≡ v
tails e = cc

pub begin_eq : {a b : SyntaxKind} {s r : Span} → Begin a s ≡ Begin b r → s ≡ r
begin_eq e = cc

pub end_eq : {a b : SyntaxKind} {s r : Span} → End a s ≡ End b r → s ≡ r
end_eq e = cc

pub token_eq : {a b : SyntaxKind} {s r : Span} → Token a s ≡ Token b r → s ≡ r
token_eq e = cc

pub kind_eq : {a b : SyntaxKind} {s r : Span} → Token a s ≡ Token b r → a ≡ b
kind_eq e = cc

T-one : (b : Bool) (x y : T b) → x ≡ y
T-one true x y = refl
T-one false x y = absurd x

with_is : (k : SyntaxKind) (x y : T (is_some (level_of k))) → ◌≡◌ {A = Operator} (record { kind = k; is = x }) (record { kind = k; is = y })
with_is k x y = ap (λ z. record { kind = k; is = z }) (T-one (is_some (level_of k)) x y)

-- an operator is fixed by its kind
same_kind : (k j : SyntaxKind) → k ≡ j → (x : T (is_some (level_of k))) (y : T (is_some (level_of j))) → ◌≡◌ {A = Operator} (record { kind = k; is = x }) (record { kind = j; is = y })
same_kind k j e = path_j (λ i _. (x : T (is_some (level_of k))) (y : T (is_some (level_of i))) → ◌≡◌ {A = Operator} (record { kind = k; is = x }) (record { kind = i; is = y })) (with_is k) e

pub operator_eq : {a b : Operator} {s r : Span} → Token a.kind s ≡ Token b.kind r → a ≡ b
operator_eq {a} {b} e = same_kind a.kind b.kind (kind_eq e) a.is b.is

-- what tells events apart: the case, and the kind's number
abbrev case_of : Event → ℕ
case_of (Error m s) = 0
case_of (Begin k s) = 1
case_of (End k s) = 2
case_of (Token k s) = 3

abbrev kind_in : Event → ℕ
kind_in (Error m s) = 0
kind_in (Begin k s) = number_of k
kind_in (End k s) = number_of k
kind_in (Token k s) = number_of k

abbrev differ : Event → Event → Bool
differ a b = not (eqb (case_of a) (case_of b)) || not (eqb (kind_in a) (kind_in b))

apart_by : {P : Type 0} (b : Bool) → b ≡ false → T b → P
apart_by true e t = cc
apart_by false e t = absurd t

same_not : (a b : Event) → a ≡ b → differ a b ≡ false
same_not a b e = ap (λ x. differ x b) e ∙ rw (eq-eqb (case_of b) (case_of b) refl, eq-eqb (kind_in b) (kind_in b) refl)

-- lists whose first events differ are not equal
pub apart : {P : Type 0} {a b : Event} {u v : Word} → T (differ a b) → ◌≡◌ {A = Word} (a ∷ u) (b ∷ v) → P
apart {P} {a} {b} t e = apart_by (differ a b) (same_not a b (heads e)) t

pub ap1 : {A Z : Type 0} (f : A → Z) {a0 b0 : A} → a0 ≡ b0 → f a0 ≡ f b0
ap1 f e0 = cc

pub ap2 : {A B Z : Type 0} (f : A → B → Z) {a0 b0 : A} {a1 b1 : B} → a0 ≡ b0 → a1 ≡ b1 → f a0 a1 ≡ f b0 b1
ap2 f e0 e1 = cc

pub ap3 : {A B C Z : Type 0} (f : A → B → C → Z) {a0 b0 : A} {a1 b1 : B} {a2 b2 : C} → a0 ≡ b0 → a1 ≡ b1 → a2 ≡ b2 → f a0 a1 a2 ≡ f b0 b1 b2
ap3 f e0 e1 e2 = cc

pub ap4 : {A B C D Z : Type 0} (f : A → B → C → D → Z) {a0 b0 : A} {a1 b1 : B} {a2 b2 : C} {a3 b3 : D} → a0 ≡ b0 → a1 ≡ b1 → a2 ≡ b2 → a3 ≡ b3 → f a0 a1 a2 a3 ≡ f b0 b1 b2 b3
ap4 f e0 e1 e2 e3 = cc

pub ap5 : {A B C D E Z : Type 0} (f : A → B → C → D → E → Z) {a0 b0 : A} {a1 b1 : B} {a2 b2 : C} {a3 b3 : D} {a4 b4 : E} → a0 ≡ b0 → a1 ≡ b1 → a2 ≡ b2 → a3 ≡ b3 → a4 ≡ b4 → f a0 a1 a2 a3 a4 ≡ f b0 b1 b2 b3 b4
ap5 f e0 e1 e2 e3 e4 = cc

pub ap6 : {A B C D E F Z : Type 0} (f : A → B → C → D → E → F → Z) {a0 b0 : A} {a1 b1 : B} {a2 b2 : C} {a3 b3 : D} {a4 b4 : E} {a5 b5 : F} → a0 ≡ b0 → a1 ≡ b1 → a2 ≡ b2 → a3 ≡ b3 → a4 ≡ b4 → a5 ≡ b5 → f a0 a1 a2 a3 a4 a5 ≡ f b0 b1 b2 b3 b4 b5
ap6 f e0 e1 e2 e3 e4 e5 = cc

pub ap8 : {A B C D E F G H Z : Type 0} (f : A → B → C → D → E → F → G → H → Z) {a0 b0 : A} {a1 b1 : B} {a2 b2 : C} {a3 b3 : D} {a4 b4 : E} {a5 b5 : F} {a6 b6 : G} {a7 b7 : H} → a0 ≡ b0 → a1 ≡ b1 → a2 ≡ b2 → a3 ≡ b3 → a4 ≡ b4 → a5 ≡ b5 → a6 ≡ b6 → a7 ≡ b7 → f a0 a1 a2 a3 a4 a5 a6 a7 ≡ f b0 b1 b2 b3 b4 b5 b6 b7
ap8 f e0 e1 e2 e3 e4 e5 e6 e7 = cc
