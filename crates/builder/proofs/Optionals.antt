-- Parts that may be left out, or follow one another.
use Rattle.std.proofs.Common.{◌≡◌, T, ◌⊎◌, List, [], ◌∷◌, sym, refl, ap, ◌∙◌, inl, inr}
use Rattle.syntax.specs.declared.span.Span.{Span}
use Rattle.grammar.specs.Words.{Word}
use Rattle.grammar.specs.Grammar.{I, Is}
use Rattle.grammar.specs.Grammar.Is.{no-I, comma-I}
use Rattle.grammar.specs.Grammar.{spell-I, spell-Is}
use Rattle.kinds.specs.declared.kind.SyntaxKind.TheVariants.{COMMA}
use Rattle.reader.specs.declared.mark.Mark.{Mark}
use Rattle.reader.specs.declared.mark.Mark.TheVariants as mark
use Rattle.reader.specs.Symbols.{Sym, spell, event, Fits, Ahead}
use Rattle.reader.specs.Symbols.Sym.{one, symbol, seq}
use Rattle.reader.proofs.Lists.{nil_cons, heads}
use Rattle.reader.proofs.Within.{Alike, RuleAt}
use Rattle.reader.proofs.Starts.{differs, Starts, bars_seen}

-- the words of f are none, or an event of m and a word of g
pub record Optional {A B : Type 0} (m : Mark) (f : Sym A) (g : Sym B) : Type 0 where
  pub none : A
  pub some : Span → B → A
  pub cases : (a : A) → (a ≡ none) ⊎ ((s : Span) × (b : B) × (a ≡ some s b))
  pub nothing : (k : Word) → spell f none k ≡ k
  pub something : (s : Span) (b : B) (k : Word) → spell f (some s b) k ≡ event m s ∷ spell g b k

-- what does not go on with an event does not begin as such words do
pub not_ahead : (m : Mark) (u : Word) (s : Span) (y w : Word) → (Ahead u (Fits m) → ⊥) → Alike u w → w ≡ event m s ∷ y → ⊥
not_ahead m [] s y w n i e = nil_cons (sym (i.none refl) ∙ e)
not_ahead m (d ∷ u) s y w n i e =
    let z = i.first d u refl in
    n (record { first = d; others = u; front = refl; so = (s, heads (sym z.1 ∙ e)) })

module _ {A B C : Type 0} {m : Mark} {f : Sym A} {g : Sym B} (L : Sym C) (x : Optional m f g) where
  -- the row goes on with the event, and what follows the part does not
  pub seen : {v : Word} (ms : List Mark) → Starts ms L → T (differs m ms) → Ahead v (Fits m) → RuleAt (seq f L) (seq (one m) (seq g L)) (λ p. (x.some p.0 p.1.0, p.1.1)) v
  seen {v = v} ms s d h = record { from = λ p k. x.something p.0 p.1.0 (spell L p.1.1 k); to = λ p k a. go p.0 p.1 k (x.cases p.0) a }
    where
      go : (a : A) (l : C) (k : Word) → (a ≡ x.none) ⊎ ((s : Span) × (b : B) × (a ≡ x.some s b)) → Alike v (spell f a (spell L l k)) → (b : Span × (B × C)) × (spell f a (spell L l k) ≡ spell (seq (one m) (seq g L)) b k)
      go a l k (inr q) i = ((q.0, (q.1, l)), ap (λ y. spell f y (spell L l k)) q.2 ∙ x.something q.0 q.1 (spell L l k))
      go a l k (inl e) i =
          let w = i.first h.first h.others h.front in
          absurd ((bars_seen m s d h).first h.first h.others h.front l w.0 k (sym (ap (λ y. spell f y (spell L l k)) e ∙ x.nothing (spell L l k)) ∙ w.1))

  -- it does not
  pub unseen : {v : Word} → (Ahead v (Fits m) → ⊥) → RuleAt (seq f L) L (λ l. (x.none, l)) v
  unseen {v = v} n = record { from = λ l k. x.nothing (spell L l k); to = λ p k a. go p.0 p.1 k (x.cases p.0) a }
    where
      go : (a : A) (l : C) (k : Word) → (a ≡ x.none) ⊎ ((s : Span) × (b : B) × (a ≡ x.some s b)) → Alike v (spell f a (spell L l k)) → (b : C) × (spell f a (spell L l k) ≡ spell L b k)
      go a l k (inl e) i = (l, ap (λ y. spell f y (spell L l k)) e ∙ x.nothing (spell L l k))
      go a l k (inr q) i =
          absurd (not_ahead m v q.0 (spell g q.1 (spell L l k)) _ n i (ap (λ y. spell f y (spell L l k)) q.2 ∙ x.something q.0 q.1 (spell L l k)))

-- (COMMA I)*
pub items : Optional (mark.Token COMMA) (symbol spell-Is) (seq (symbol spell-I) (symbol spell-Is))
unfolding spell-Is
items =
    record {
      none = no-I;
      some = λ s p. comma-I s p.0 p.1;
      cases = cases;
      nothing = λ k. refl;
      something = λ s p k. refl;
    }
  where
    cases : (a : Is) → (a ≡ no-I) ⊎ ((s : Span) × (b : I × Is) × (a ≡ comma-I s b.0 b.1))
    cases no-I = inl refl
    cases (comma-I s i r) = inr (s, (i, r), refl)
