-- Reading and failing, for any symbols: sequences, choices, and what is left to read.
use Rattle.std.proofs.Common.{◌≡◌, ◌+◌, ◌≤◌, Bool, true, false, ltb, ◌⊎◌, [], ◌∷◌, ◌++◌, length, sym, refl, ap, ◌∙◌, subst, inl, inr, arith, length-append, ltb-false}
use Rattle.std.proofs.lemmas.Bool.{or_parts}
use Rattle.std.proofs.lemmas.List.{append_assoc, append-nil}
use Rattle.syntax.specs.declared.event.Event.{Event}
use Rattle.syntax.specs.declared.event.Event.TheVariants.{Error, Begin, End, Token}
use Rattle.refusal.specs.declared.refusal.Refusal.{Refusal}
use Rattle.grammar.specs.Words.{Word}
use Rattle.reader.specs.Symbols.{Sym, spell, Viable, Stuck, Short}
use Rattle.reader.specs.Symbols.Sym.{seq, alt}
use Rattle.reader.proofs.Lists.{nil_cons, heads}
use Rattle.grammar.specs.Tests.{last_end}
use Rattle.reader.specs.States.{State, misplaced, step, after, NoMinus, Judged, Clear}
use Rattle.reader.specs.Contract.{Conf, Blame, damaged, bad_span, out_of_place, too_deep, token, minus, over, Read, Fail}

pub after-++ : (st : State) (u w : Word) → after st (u ++ w) ≡ after (after st u) w
after-++ st [] w = refl
after-++ st (e ∷ u) w = after-++ (step st e) u w

pub past_after : (st : State) (w : Word) → (after st w).past ≡ st.past ++ w
past_after st [] = sym (append-nil st.past)
past_after st (e ∷ w) = past_after (step st e) w ∙ append_assoc st.past (e ∷ []) w

settled : (st : State) (e : Event) (u : Word) → Judged true st e u → NoMinus st e
settled st e [] j = j
settled st e (x ∷ u) j = j

left_open : (d : Bool) (st : State) (e : Event) (w : Word) → NoMinus st e → Judged d st e w
left_open true st e [] n = n
left_open false st e [] n = tt
left_open d st e (x ∷ w) n = n

pub clear-++ : (d : Bool) (st : State) (u w : Word) → Clear true st u → Clear d (after st u) w → Clear d st (u ++ w)
clear-++ d st [] w a b = b
clear-++ d st (e ∷ u) w a b = (a.0, left_open d st e (u ++ w) (settled st e u a.1), clear-++ d (step st e) u w a.2 b)

-- what is left behind a word of a symbol is fixed
pub record Once {A : Type 0} (f : Sym A) : Type 0 where
  pub rest : (a b : A) (k l : Word) → spell f a k ≡ spell f b l → k ≡ l

-- no word of a symbol begins as v does
pub record Bars {A : Type 0} (f : Sym A) (v : Word) : Type 0 where
  pub first : (e : Event) (y : Word) → v ≡ e ∷ y → (a : A) (z k : Word) → spell f a k ≡ e ∷ z → ⊥
  pub none : v ≡ [] → Short f []

-- a word that begins as v does
pub record Alike (v w : Word) : Type 0 where
  pub first : (e : Event) (y : Word) → v ≡ e ∷ y → (z : Word) × (w ≡ e ∷ z)
  pub none : v ≡ [] → w ≡ []

pub alike_next : (u v v₁ : Word) (e : Event) (y z w : Word) → v ≡ u ++ v₁ → v₁ ≡ e ∷ y → w ≡ u ++ (e ∷ z) → Alike v w
alike_next [] v v₁ e y z w p q r =
    record { first = λ d x f. (z, r ∙ ap (λ a. a ∷ z) (heads (sym (p ∙ q) ∙ f))); none = λ f. nil_cons (sym f ∙ p ∙ q) }
alike_next (a ∷ u) v v₁ e y z w p q r =
    record { first = λ d x f. (u ++ (e ∷ z), r ∙ ap (λ b. b ∷ (u ++ (e ∷ z))) (heads (sym p ∙ f))); none = λ f. nil_cons (sym f ∙ p) }

pub alike_over : (u v v₁ w : Word) → v ≡ u ++ v₁ → v₁ ≡ [] → w ≡ u → Alike v w
alike_over [] v v₁ w p q r = record { first = λ d x f. nil_cons (sym (p ∙ q) ∙ f); none = λ f. r }
alike_over (a ∷ u) v v₁ w p q r =
    record { first = λ d x f. (u, r ∙ ap (λ b. b ∷ u) (heads (sym p ∙ f))); none = λ f. nil_cons (sym f ∙ p) }

-- in front of v, a word of f with value a ends where it does in no other way before g
pub record Ends {A B : Type 0} (f : Sym A) (g : Sym B) (a : A) (v : Word) : Type 0 where
  pub rest : (b : A) (x : B) (k y : Word) → Alike v y → spell f b (spell g x k) ≡ spell f a y → spell g x k ≡ y

pub ends_once : {A B : Type 0} {f : Sym A} (g : Sym B) (a : A) (v : Word) → Once f → Ends f g a v
ends_once g a v o = record { rest = λ b x k y h q. o.rest b a (spell g x k) y q }

-- in front of v, the words of f are those of g
pub record RuleAt {A B : Type 0} (f : Sym A) (g : Sym B) (into : B → A) (v : Word) : Type 0 where
  pub from : (b : B) (k : Word) → spell f (into b) k ≡ spell g b k
  pub to : (a : A) (k : Word) → Alike v (spell f a k) → (b : B) × (spell f a k ≡ spell g b k)

-- two symbols with the same words
pub record Rule {A B : Type 0} (f : Sym A) (g : Sym B) (into : B → A) : Type 0 where
  pub out : A → B
  pub from : (b : B) (k : Word) → spell f (into b) k ≡ spell g b k
  pub to : (a : A) (k : Word) → spell f a k ≡ spell g (out a) k

-- a cause carries over where being stuck, viable and short do
blame_map : {A B : Type 0} {f : Sym A} {g : Sym B} {u u' : Word} {st : State} {v : Word} {r : Refusal} → ((e : Event) (y : Word) → v ≡ e ∷ y → Stuck f u e → Stuck g u' e) → ((e : Event) → Viable f (u ++ (e ∷ [])) → Viable g (u' ++ (e ∷ []))) → (v ≡ [] → Short f u → Short g u') → Blame f u st v r → Blame g u' st v r
blame_map s w x (damaged a) = damaged a
blame_map s w x (bad_span a b) = bad_span a b
blame_map s w x (out_of_place {e = e} {v = v} a b c) = out_of_place a b (s e v refl c)
blame_map s w x (too_deep {e = e} a b c d) = too_deep a b (w e c) d
blame_map s w x (token {e = e} a b c) = token a (w e b) c
blame_map s w x (minus {e = e} a b c) = minus a (w e b) c
blame_map s w x (over a) = over (x refl a)

pub viable_map : {A B : Type 0} {f : Sym A} {g : Sym B} {u : Word} (into : B → A) → ((b : B) (k : Word) → spell f (into b) k ≡ spell g b k) → Viable g u → Viable f u
viable_map into from x = record { value = into x.value; rest = x.rest; whole = λ k. from x.value k ∙ x.whole k }

bars_stuck : {B : Type 0} {g : Sym B} (u v v₁ : Word) (e : Event) (y : Word) → Bars g v → v ≡ u ++ v₁ → v₁ ≡ e ∷ y → Stuck g u e
bars_stuck [] v v₁ e y b p q a z k m = b.first e y (p ∙ q) a z k m
bars_stuck (x ∷ u) v v₁ e y b p q a z k m = b.first x (u ++ v₁) p a (u ++ (e ∷ z)) k m

bars_short : {B : Type 0} {g : Sym B} (u v v₁ : Word) → Bars g v → v ≡ u ++ v₁ → v₁ ≡ [] → Short g u
bars_short [] v v₁ b p q a k m = b.none (p ∙ q) a k m
bars_short (x ∷ u) v v₁ b p q a k m = b.first x (u ++ v₁) p a u k m

module _ {A B : Type 0} {f : Sym A} {g : Sym B} where
  -- the first part is read, and the second can go on
  viable_rest : (a : A) (w u : Word) → ((k : Word) → spell f a k ≡ w ++ k) → Viable g u → Viable (seq f g) (w ++ u)
  viable_rest a w u r x =
      record {
        value = (a, x.value);
        rest = x.rest;
        whole = λ k. ap (λ t. spell f a t) (x.whole k) ∙ r ((u ++ x.rest) ++ k) ∙ along k;
      }
    where
      along : (k : Word) → w ++ ((u ++ x.rest) ++ k) ≡ ((w ++ u) ++ x.rest) ++ k
      along k = simp append_assoc

  -- the first part can go on, and the second has some word
  pub viable_first : (u : Word) → Viable f u → Viable g [] → Viable (seq f g) u
  viable_first u x m =
      record {
        value = (x.value, m.value);
        rest = x.rest ++ m.rest;
        whole = λ k. ap (λ t. spell f x.value t) (m.whole k) ∙ x.whole (m.rest ++ k) ∙ along k;
      }
    where
      along : (k : Word) → (u ++ x.rest) ++ (m.rest ++ k) ≡ (u ++ (x.rest ++ m.rest)) ++ k
      along k = simp append_assoc

  pub seq_read : {d : Bool} {a : A} {b : B} {c c₁ c₂ : Conf} → Read true f a c c₁ → Read d g b c₁ c₂ → Read d (seq f g) (a, b) c c₂
  seq_read {d = d} {a = a} {b = b} {c = c} {c₁ = c₁} {c₂ = c₂} r s =
      record {
        word = r.word ++ s.word;
        split = r.split ∙ ap (λ t. r.word ++ t) s.split ∙ sym (append_assoc r.word s.word c₂.rest);
        whole = λ k. ap (λ t. spell f a t) (s.whole k) ∙ r.whole (s.word ++ k) ∙ sym (append_assoc r.word s.word k);
        state = s.state ∙ ap (λ x. after x s.word) r.state ∙ sym (after-++ c.state r.word s.word);
        clear = clear-++ d c.state r.word s.word r.clear (subst (λ x. Clear d x s.word) r.state s.clear);
      }

  -- the first part is read, and the second fails
  pub fail_rest : {e : Refusal} {a : A} {c c₁ : Conf} {u : Word} → Ends f g a c₁.rest → Read true f a c c₁ → Fail g e c₁ u → Fail (seq f g) e c u
  fail_rest {e = e} {a = a} {c = c} {c₁ = c₁} {u = u} o r s =
      let w : Word = r.word in
      let x : Word = s.before in
      let st : after c₁.state x ≡ after c.state (w ++ x) = ap (λ y. after y x) r.state ∙ sym (after-++ c.state w x) in
      record {
        before = w ++ x;
        others = s.others;
        split = r.split ∙ ap (λ t. w ++ t) s.split ∙ sym (append_assoc w x s.others);
        behind = s.behind ∙ ap (λ y. y.past ++ x) r.state ∙ ap (λ y. y ++ x) (past_after c.state w) ∙ append_assoc c.state.past w x;
        viable = viable_rest a w x r.whole s.viable;
        clear = clear-++ true c.state w x r.clear (subst (λ y. Clear true y x) r.state s.clear);
        blame =
            blame_map (λ d y q t p z k h. t p.1 z k (o.rest p.0 p.1 k (x ++ (d ∷ z)) (alike_next x c₁.rest s.others d y z _ s.split q refl) (h ∙ append_assoc w x (d ∷ z) ∙ sym (r.whole (x ++ (d ∷ z))))))
            (λ d y. subst (λ t. Viable (seq f g) t) (sym (append_assoc w x (d ∷ []))) (viable_rest a w (x ++ (d ∷ [])) r.whole y))
            (λ q t p k h. t p.1 k (o.rest p.0 p.1 k x (alike_over x c₁.rest s.others x s.split q refl) (h ∙ sym (r.whole x))))
            (subst (λ y. Blame g x y s.others e) st s.blame);
      }

  -- the first part fails, and the second has some word
  pub fail_first : {e : Refusal} {c : Conf} {u : Word} → Viable g [] → Fail f e c u → Fail (seq f g) e c u
  fail_first m s =
      record {
        before = s.before;
        others = s.others;
        split = s.split;
        behind = s.behind;
        viable = viable_first s.before s.viable m;
        clear = s.clear;
        blame =
            blame_map (λ d y q t p z k w. t p.0 z (spell g p.1 k) w) (λ d x. viable_first (s.before ++ (d ∷ [])) x m)
            (λ q t p k w. t p.0 (spell g p.1 k) w)
            s.blame;
      }

  -- the first way fails, and no word of the second begins as the row does
  fail_this : {e : Refusal} {c : Conf} {u : Word} → Bars g c.rest → Fail f e c u → Fail (alt f g) e c u
  fail_this {c = c} b s =
      record {
        before = s.before;
        others = s.others;
        split = s.split;
        behind = s.behind;
        viable = viable_map {f = alt f g} {g = f} inl (λ a k. refl) s.viable;
        clear = s.clear;
        blame =
            blame_map (λ d y q t p z k w. stuck d y q t p z k w) (λ d x. viable_map {f = alt f g} {g = f} inl (λ a k. refl) x)
            (λ q t p k w. short q t p k w)
            s.blame;
      }
    where
      stuck : (d : Event) (y : Word) → s.others ≡ d ∷ y → Stuck f s.before d → (p : A ⊎ B) (z k : Word) → spell (alt f g) p k ≡ s.before ++ (d ∷ z) → ⊥
      stuck d y q t (inl a) z k w = t a z k w
      stuck d y q t (inr a) z k w = bars_stuck s.before c.rest s.others d y b s.split q a z k w

      short : s.others ≡ [] → Short f s.before → (p : A ⊎ B) (k : Word) → spell (alt f g) p k ≡ s.before → ⊥
      short q t (inl a) k w = t a k w
      short q t (inr a) k w = bars_short s.before c.rest s.others b s.split q a k w

pub read_map : {A B : Type 0} {f : Sym A} {g : Sym B} {d : Bool} {b : B} {c c₁ : Conf} (into : B → A) → ((b : B) (k : Word) → spell f (into b) k ≡ spell g b k) → Read d g b c c₁ → Read d f (into b) c c₁
read_map {b = b} into from r =
    record { word = r.word; split = r.split; whole = λ k. from b k ∙ r.whole k; state = r.state; clear = r.clear }

pub fail_map : {A B : Type 0} {f : Sym A} {g : Sym B} {into : B → A} {e : Refusal} {c : Conf} {u : Word} → RuleAt f g into c.rest → Fail g e c u → Fail f e c u
fail_map {f = f} {g = g} {into = into} {c = c} l s =
    record {
      before = s.before;
      others = s.others;
      split = s.split;
      behind = s.behind;
      viable = viable_map into l.from s.viable;
      clear = s.clear;
      blame =
          blame_map (λ d y q t a z k w. let b = l.to a k (alike_next s.before c.rest s.others d y z _ s.split q w) in t b.0 z k (sym b.1 ∙ w))
          (λ d x. viable_map into l.from x)
          (λ q t a k w. let b = l.to a k (alike_over s.before c.rest s.others _ s.split q w) in t b.0 k (sym b.1 ∙ w))
          s.blame;
    }

pub rule_at : {A B : Type 0} {f : Sym A} {g : Sym B} {into : B → A} (v : Word) → Rule f g into → RuleAt f g into v
rule_at v l = record { from = l.from; to = λ a k h. (l.out a, l.to a k) }

abbrev swapped : {A B : Type 0} → A ⊎ B → B ⊎ A
swapped (inl a) = inr a
swapped (inr b) = inl b

swap_same : {A B : Type 0} (f : Sym A) (g : Sym B) (p : A ⊎ B) (k : Word) → spell (alt g f) (swapped p) k ≡ spell (alt f g) p k
swap_same f g (inl a) k = refl
swap_same f g (inr b) k = refl

swap_rule : {A B : Type 0} (f : Sym A) (g : Sym B) → Rule (alt f g) (alt g f) swapped
swap_rule f g = record { out = swapped; from = λ b k. swap_same g f b k; to = λ a k. sym (swap_same f g a k) }

-- a word of N was begun at c; we are at c₁, and M is left to read, whose value gives N's
pub record Within {A B : Type 0} (N : Sym A) (M : Sym B) (κ : B → A) (c c₁ : Conf) : Type 0 where
  pub reads : (d : Bool) (b : B) (c₂ : Conf) → Read d M b c₁ c₂ → Read d N (κ b) c c₂
  pub fails : (e : Refusal) (u : Word) → Fail M e c₁ u → Fail N e c u

pub start : {A : Type 0} (N : Sym A) (c : Conf) → Within N N (λ a. a) c c
start N c = record { reads = λ d b c₂ r. r; fails = λ e u s. s }

module _ {A : Type 0} {N : Sym A} where
  pub by_rule_at : {B C : Type 0} {M : Sym B} {M' : Sym C} {κ : B → A} {into : C → B} {c c₁ : Conf} → RuleAt M M' into c₁.rest → Within N M κ c c₁ → Within N M' (λ b. κ (into b)) c c₁
  by_rule_at {into = into} l s =
      record { reads = λ d b c₂ r. s.reads d (into b) c₂ (read_map into l.from r); fails = λ e u q. s.fails e u (fail_map l q) }

  pub by_rule : {B C : Type 0} {M : Sym B} {M' : Sym C} {κ : B → A} {into : C → B} {c c₁ : Conf} → Rule M M' into → Within N M κ c c₁ → Within N M' (λ b. κ (into b)) c c₁
  by_rule {c₁ = c₁} l s = by_rule_at (rule_at c₁.rest l) s

  pub moved : {B : Type 0} {M : Sym B} {κ : B → A} {c c₁ c₂ : Conf} → Within N M κ c c₁ → c₂ ≡ c₁ → Within N M κ c c₂
  moved {M = M} {κ = κ} {c = c} s e = subst (λ u. Within N M κ c u) (sym e) s

  pub passed : {B C : Type 0} {L : Sym B} {M : Sym C} {κ : B × C → A} {c c₁ c₂ : Conf} {a : B} → Ends L M a c₂.rest → Within N (seq L M) κ c c₁ → Read true L a c₁ c₂ → Within N M (λ b. κ (a, b)) c c₂
  passed {a = a} o s r =
      record { reads = λ d b c₃ q. s.reads d (a, b) c₃ (seq_read r q); fails = λ e u q. s.fails e u (fail_rest o r q) }

  pub broken : {B C : Type 0} {L : Sym B} {M : Sym C} {κ : B × C → A} {e : Refusal} {c c₁ : Conf} {u : Word} → Viable M [] → Within N (seq L M) κ c c₁ → Fail L e c₁ u → Fail N e c u
  broken {e = e} {u = u} m s q = s.fails e u (fail_first m q)

  pub this_way : {B C : Type 0} {L : Sym B} {M : Sym C} {κ : B ⊎ C → A} {c c₁ : Conf} → Bars M c₁.rest → Within N (alt L M) κ c c₁ → Within N L (λ b. κ (inl b)) c c₁
  this_way {L = L} {M = M} b s =
      record {
        reads = λ d a c₂ r. s.reads d (inl a) c₂ (read_map {f = alt L M} {g = L} inl (λ x k. refl) r);
        fails = λ e u q. s.fails e u (fail_this b q);
      }

  pub that_way : {B C : Type 0} {L : Sym B} {M : Sym C} {κ : B ⊎ C → A} {c c₁ : Conf} → Bars L c₁.rest → Within N (alt L M) κ c c₁ → Within N M (λ b. κ (inr b)) c c₁
  that_way {L = L} {M = M} b s =
      record {
        reads = λ d a c₂ r. s.reads d (inr a) c₂ (read_map {f = alt L M} {g = M} inr (λ x k. refl) r);
        fails = λ e u q. s.fails e u (fail_map (rule_at _ (swap_rule L M)) (fail_this b q));
      }

pub read_le : {A : Type 0} {f : Sym A} {d : Bool} {a : A} {c c₁ : Conf} → Read d f a c c₁ → length c₁.rest ≤ length c.rest
read_le {c₁ = c₁} r = omega (arith, ap length r.split, length-append r.word c₁.rest)

-- a word of a symbol is not empty where none is a front of nothing
pub read_less : {A : Type 0} {f : Sym A} {d : Bool} {a : A} {c c₁ : Conf} → Short f [] → Read d f a c c₁ → length c₁.rest + 1 ≤ length c.rest
read_less {f = f} {a = a} {c = c} {c₁ = c₁} s r = by_word r.word r.split r.whole
  where
    by_word : (w : Word) → c.rest ≡ w ++ c₁.rest → ((k : Word) → spell f a k ≡ w ++ k) → length c₁.rest + 1 ≤ length c.rest
    by_word [] p q = absurd (s a [] (q []))
    by_word (e ∷ w) p q = omega (arith, ap length p, length-append w c₁.rest)

-- a source's places only grow
pub last_grows : (d : Bool) (st : State) (w : Word) → Clear d st w → st.last ≤ (after st w).last
last_grows d st [] c = omega arith
last_grows d st (e ∷ w) c =
    let l = last_step st e c.0.passes.placed in
    let m = last_grows d (step st e) w c.2 in
    omega (arith, l, m)
  where
    last_step : (st : State) (e : Event) → misplaced st e ≡ false → st.last ≤ last_end st.last (e ∷ [])
    last_step st (Error m s) p = omega arith
    last_step st (Begin k s) p = omega arith
    last_step st (End k s) p = omega arith
    last_step st (Token k s) p =
        let a = or_parts (ltb s.end s.start) _ p in
        let b = or_parts (ltb (length st.source) s.end) _ a.1 in
        let x = ltb-false s.end s.start a.0 in
        let y = ltb-false s.start st.last b.1 in
        omega (arith, x, y)
