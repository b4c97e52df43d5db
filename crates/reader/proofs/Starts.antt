-- What the words of a symbol begin with.
use Rattle.std.proofs.Common.{◌≡◌, Bool, true, false, cond, not, T, ◌⊎◌, List, [], ◌∷◌, ◌++◌, sym, refl, ap, ◌∙◌, subst, inl, inr, T_not, eq-eqb}
use Rattle.kinds.specs.Kinds.{number_of, same}
use Rattle.kinds.specs.declared.kind.SyntaxKind.{SyntaxKind}
use Rattle.syntax.specs.declared.event.Event.{Event}
use Rattle.syntax.specs.declared.span.Span.{Span}
use Rattle.grammar.specs.Words.{Word}
use Rattle.reader.specs.declared.mark.Mark.{Mark}
use Rattle.reader.specs.declared.mark.Mark.TheVariants as mark
use Rattle.reader.specs.Symbols.{Sym, spell, event, Fits, Ahead, Short}
use Rattle.reader.specs.Symbols.Sym.{one, seq, alt}
use Rattle.reader.proofs.Lists.{nil_cons, heads}
use Rattle.reader.proofs.Within.{Bars, Rule}

-- no event has both marks
abbrev pub differ : Mark → Mark → Bool
differ (mark.Begin a) (mark.Begin b) = not (same a b)
differ (mark.Begin a) (mark.End b) = true
differ (mark.Begin a) (mark.Token b) = true
differ (mark.End a) (mark.Begin b) = true
differ (mark.End a) (mark.End b) = not (same a b)
differ (mark.End a) (mark.Token b) = true
differ (mark.Token a) (mark.Begin b) = true
differ (mark.Token a) (mark.End b) = true
differ (mark.Token a) (mark.Token b) = not (same a b)

unequal : {a b : SyntaxKind} → T (not (same a b)) → a ≡ b → ⊥
unequal {a} {b} d e = T_not _ d (subst T (sym (eq-eqb (number_of a) (number_of b) (ap (λ t. number_of t) e))) tt)

pub apart : (m n : Mark) (s r : Span) → T (differ m n) → event m s ≡ event n r → ⊥
apart (mark.Begin a) (mark.Begin b) s r d e = let k : a ≡ b = cc in unequal d k
apart (mark.Begin a) (mark.End b) s r d e = cc
apart (mark.Begin a) (mark.Token b) s r d e = cc
apart (mark.End a) (mark.Begin b) s r d e = cc
apart (mark.End a) (mark.End b) s r d e = let k : a ≡ b = cc in unequal d k
apart (mark.End a) (mark.Token b) s r d e = cc
apart (mark.Token a) (mark.Begin b) s r d e = cc
apart (mark.Token a) (mark.End b) s r d e = cc
apart (mark.Token a) (mark.Token b) s r d e = let k : a ≡ b = cc in unequal d k

-- an event of one of some marks
abbrev pub FitsAny : List Mark → Event → Type 0
FitsAny [] e = ⊥
FitsAny (m ∷ ms) e = Fits m e ⊎ FitsAny ms e

abbrev pub differs : Mark → List Mark → Bool
differs m [] = true
differs m (n ∷ ns) = cond (differ m n) (differs m ns) false

-- each word of a symbol begins with an event of one of the marks
pub record Starts {A : Type 0} (ms : List Mark) (f : Sym A) : Type 0 where
  pub begins : (a : A) (k : Word) → Ahead (spell f a k) (FitsAny ms)

pub starts_one : (m : Mark) → Starts (m ∷ []) (one m)
starts_one m = record { begins = λ a k. record { first = event m a; others = k; front = refl; so = inl (a, refl) } }

pub starts_seq : {A B : Type 0} {ms : List Mark} {f : Sym A} {g : Sym B} → Starts ms f → Starts ms (seq f g)
starts_seq {g = g} s = record { begins = λ p k. s.begins p.0 (spell g p.1 k) }

any_left : (ms ns : List Mark) (e : Event) → FitsAny ms e → FitsAny (ms ++ ns) e
any_left [] ns e f = absurd f
any_left (m ∷ ms) ns e (inl f) = inl f
any_left (m ∷ ms) ns e (inr f) = inr (any_left ms ns e f)

any_right : (ms ns : List Mark) (e : Event) → FitsAny ns e → FitsAny (ms ++ ns) e
any_right [] ns e f = f
any_right (m ∷ ms) ns e f = inr (any_right ms ns e f)

pub starts_alt : {A B : Type 0} {ms ns : List Mark} {f : Sym A} {g : Sym B} → Starts ms f → Starts ns g → Starts (ms ++ ns) (alt f g)
starts_alt {A} {B} {ms} {ns} {f} {g} s t = record { begins = go }
  where
    go : (p : A ⊎ B) (k : Word) → Ahead (spell (alt f g) p k) (FitsAny (ms ++ ns))
    go (inl a) k = let x = s.begins a k in record { first = x.first; others = x.others; front = x.front; so = any_left ms ns x.first x.so }
    go (inr b) k = let x = t.begins b k in record { first = x.first; others = x.others; front = x.front; so = any_right ms ns x.first x.so }

pub starts_rule : {A B : Type 0} {ms : List Mark} {f : Sym A} {g : Sym B} {into : B → A} → Rule f g into → Starts ms g → Starts ms f
starts_rule {ms = ms} l s = record { begins = λ a k. subst (λ v. Ahead v (FitsAny ms)) (sym (l.to a k)) (s.begins (l.out a) k) }

none_of : (m : Mark) (ns : List Mark) (e : Event) → T (differs m ns) → Fits m e → FitsAny ns e → ⊥
none_of m [] e d f g = g
none_of m (n ∷ ns) e d f (inl g) = apart m n f.0 g.0 (left (differ m n) _ d) (sym f.1 ∙ g.1)
  where
    left : (a b : Bool) → T (cond a b false) → T a
    left true b t = tt
    left false b t = t
none_of m (n ∷ ns) e d f (inr g) = none_of m ns e (right (differ m n) _ d) f g
  where
    right : (a b : Bool) → T (cond a b false) → T b
    right true b t = t
    right false b t = absurd t

pub starts_short : {A : Type 0} {ms : List Mark} {f : Sym A} → Starts ms f → Short f []
starts_short s a k e = nil_cons (sym e ∙ (s.begins a k).front)

-- the row begins with m, and no word of f does
pub bars_seen : {A : Type 0} (m : Mark) {ms : List Mark} {f : Sym A} {v : Word} → Starts ms f → T (differs m ms) → Ahead v (Fits m) → Bars f v
bars_seen {A} m {ms} {f} {v} s d x = record { first = go; none = λ p. nil_cons (sym p ∙ x.front) }
  where
    go : (e : Event) (y : Word) → v ≡ e ∷ y → (a : A) (z k : Word) → spell f a k ≡ e ∷ z → ⊥
    go e y p a z k q =
        let b = s.begins a k in
        none_of m ms x.first d x.so (subst (λ w. FitsAny ms w) (heads (sym b.front ∙ q) ∙ heads (sym p ∙ x.front)) b.so)

-- the row does not begin with m, and each word of f does
pub bars_unseen : {A : Type 0} (m : Mark) {f : Sym A} {v : Word} → Starts (m ∷ []) f → (Ahead v (Fits m) → ⊥) → Bars f v
bars_unseen {A} m {f} {v} s n = record { first = go; none = λ p. starts_short s }
  where
    fit : (x : Event) → FitsAny (m ∷ []) x → Fits m x
    fit x (inl f) = f
    fit x (inr f) = absurd f

    go : (e : Event) (y : Word) → v ≡ e ∷ y → (a : A) (z k : Word) → spell f a k ≡ e ∷ z → ⊥
    go e y p a z k q =
        let b = s.begins a k in
        n (record { first = e; others = y; front = p; so = subst (λ x. Fits m x) (heads (sym b.front ∙ q)) (fit b.first b.so) })
