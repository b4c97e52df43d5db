-- Reading step by step.
use Rattle.std.proofs.Common.{length, ◌≡◌, ℕ, ◌+◌, List, Float, Bool, true, false, cond, [], IsErrAnd, Some, None, Ok, Err, Result, sym, refl, ap, ◌∙◌, subst, arith}
use Rattle.refusal.specs.declared.refusal.Refusal.{Refusal}
use Rattle.tree.proofs.Pendings.{leaf_pending_at}
use Rattle.tree.specs.Labels.{slot_of}
use Rattle.tree.specs.Memory.{Memory, Lent, Pending}
use Rattle.grammar.specs.Nodes.{float_tree, regexp_tree, integer_tree, integer_label}
use Rattle.builder.specs.Leaves.{float_label, regexp_label}
use Rattle.tree.specs.declared.slot.Slot.{Slot}
use Rattle.tree.specs.declared.place.Placer.{Placer}
use Rattle.syntax.specs.declared.event.Event.TheVariants.{Token}
use Rattle.syntax.specs.declared.span.Span.{Span}
use Rattle.kinds.specs.declared.kind.SyntaxKind.{SyntaxKind}
use Rattle.kinds.specs.declared.kind.SyntaxKind.TheVariants.{FLOAT_LIT, INTEGER_LIT, REGEXP}
use Rattle.literal.specs.Floats.{float_of}
use Rattle.literal.specs.Integers.{integer_of}
use Rattle.literal.specs.Regexps.{regexp_of}
use Rattle.literal.specs.declared.integer.Integer.{Integer}
use Rattle.literal.specs.declared.regexp.Regexp.{Regexp}
use Rattle.grammar.specs.Tests.{token_refusal, refusal_in}
use Rattle.reader.specs.declared.mark.Mark.TheVariants as mark
use Rattle.reader.specs.declared.mark.Mark.{Mark}
use Rattle.reader.specs.declared.reader.Reader.{Reader}
use Rattle.reader.specs.Symbols.{Sym, Viable, Short}
use Rattle.reader.specs.Symbols.Sym.{one, seq}
use Rattle.reader.specs.Contract.{Conf, conf, state_of, Kept, Read, Fresh, Failed, Parses, There, Takes, Saw, plain, settles}
use Rattle.reader.proofs.Takes.{once_one, short_one, kept_trans, failed, took_read, token_read, token_refused}
use Rattle.reader.proofs.Within.{Within, start, passed, broken, moved, by_rule_at, RuleAt, Ends, ends_once, read_less, last_grows}
use Rattle.builder.specs.Builds.{Spent, Builds}

-- a word of N was begun at p and o; we are at p₁ and o₁ with n slots to spare, and M is left to read, whose value gives N's
pub record Begun {A B : Type 0} (h n : ℕ) (N : Sym A) (M : Sym B) (κ : B → A) (p : Reader) (o : Placer) (p₁ : Reader) (o₁ : Placer) : Type 0 where
  pub lent : Lent o o₁
  pub kept : Kept p p₁
  pub within : Within N M κ (conf p) (conf p₁)
  pub spent : Spent h n p o p₁ o₁

pub begun : {A : Type 0} (h : ℕ) (N : Sym A) (p : Reader) (o : Placer) → Begun h h N N (λ a. a) p o p o
begun h N p o =
    record {
      lent = record { slots = refl; text = refl };
      kept = record { row = refl; source = refl };
      within = start N (conf p);
      spent = record { count = omega arith; place = λ l. l };
    }

-- each event that is read gives a slot to spare
pub read_spent : {A : Type 0} {f : Sym A} {d : Bool} {a : A} {h n : ℕ} {p p₁ p₂ : Reader} {o o₁ : Placer} → Short f [] → Read d f a (conf p₁) (conf p₂) → Spent h n p o p₁ o₁ → Spent h (n + 1) p o p₂ o₁
read_spent {d = d} {p₁ = p₁} s r b =
    record {
      count = omega (arith, b.count, read_less s r);
      place = λ l. omega (arith, b.place l, last_grows d (state_of p₁) r.word r.clear, ap (λ x. x.last) r.state);
    }

one_left : (n : ℕ) {h : ℕ} {p p' : Reader} {o o' : Placer} → Spent h (n + 1) p o p' o' → Spent h 1 p o p' o'
one_left n s = record { count = omega (arith, s.count); place = s.place }

-- what is read next fails
pub fails : {A B : Type 0} {N : Sym A} {M : Sym B} {κ : B → A} {e : Refusal} {p p₁ p₂ : Reader} → Within N M κ (conf p) (conf p₁) → Failed M e p₁ p₂ → Failed N e p p₂
fails {e = e} b f = record { place = f.place; fail = b.fails e f.place f.fail; stops = f.stops }

-- and something has to follow it
first_fails : {A B C : Type 0} {N : Sym A} {L : Sym B} {M : Sym C} {κ : B × C → A} {e : Refusal} {p p₁ p₂ : Reader} → Viable M [] → Within N (seq L M) κ (conf p) (conf p₁) → Failed L e p₁ p₂ → Failed N e p p₂
first_fails v b f = record { place = f.place; fail = broken v b f.fail; stops = f.stops }

-- an error is handed on
stopped : {A Y : Type 0} {d : Bool} {h : ℕ} {f : Sym A} {Post : A → Y → Type 0} {e : Refusal} {p p' : Reader} {o o' : Placer} → Lent o o' → Kept p p' → Failed f e p p' → (r : Result Y Refusal) → IsErrAnd r (λ x. x ≡ e) → Builds d h f Post p o p' o' r
stopped l k f (Ok y) h = absurd h
stopped {f = g} {p = p} {p' = p'} l k f (Err x) h =
    record { lent = l; parses = record { kept = k; outcome = subst (λ y. Failed g y p p') (sym h) f } }

-- the root changes
pub rooted : {A B : Type 0} {h n : ℕ} {N : Sym A} {M : Sym B} {κ : B → A} {p p₁ : Reader} {o o₁ : Placer} {s : Slot} → Begun h n N M κ p o p₁ o₁ → Begun h n N M κ p o p₁ (record { slots = o₁.slots; used = o₁.used; text = o₁.text; written = o₁.written; root = s })
rooted b =
    record {
      lent = record { slots = b.lent.slots; text = b.lent.text };
      kept = b.kept;
      within = b.within;
      spent = record { count = b.spent.count; place = b.spent.place };
    }

-- a production is called, for which n of the slots to spare are roots
pub call_ok : {A B C Y : Type 0} {h : ℕ} {N : Sym A} {M : Sym B} {L : Sym C} {p p₁ p₂ : Reader} {o o₁ : Placer} {κ : C × B → A} (n k : ℕ) {y : Y} {o₂ : Placer} {Post : C → Y → Type 0} (x : Builds true k L Post p₁ o₁ p₂ o₂ (Ok y)) → Ends L M x.parses.outcome.value (conf p₂).rest → Begun h (n + k) N (seq L M) κ p o p₁ o₁ → Begun h (n + 1) N M (λ b. κ (x.parses.outcome.value, b)) p o p₂ o₂
call_ok n k x e b =
    let w = x.parses.outcome in
    record {
      lent = record { slots = x.lent.slots ∙ b.lent.slots; text = x.lent.text ∙ b.lent.text };
      kept = kept_trans b.kept x.parses.kept;
      within = passed e b.within w.read;
      spent = record { count = omega (arith, b.spent.count, w.post.0.count); place = λ l. w.post.0.place (b.spent.place l) };
    }

module _ {A B : Type 0} {h n : ℕ} {N : Sym A} {M : Sym B} {p p₁ p₂ : Reader} {o o₁ : Placer} where
  -- an event is read
  pub read_ok : {κ : Span × B → A} {y : Span} (m : Mark) → Begun h n N (seq (one m) M) κ p o p₁ o₁ → Kept p₁ p₂ → Read true (one m) y (conf p₁) (conf p₂) → Begun h (n + 1) N M (λ b. κ (y, b)) p o p₂ o₁
  read_ok {y = y} m b k r =
      record {
        lent = b.lent;
        kept = kept_trans b.kept k;
        within = passed (ends_once M y (conf p₂).rest (once_one m)) b.within r;
        spent = read_spent (short_one m) r b.spent;
      }

  -- a plain token is taken
  pub expect_ok : {κ : Span × B → A} {y : Span} (k : SyntaxKind) → plain (mark.Token k) ≡ true → Begun h n N (seq (one (mark.Token k)) M) κ p o p₁ o₁ → Takes (mark.Token k) There p₁ p₂ (Ok y) → Begun h (n + 1) N M (λ b. κ (y, b)) p o p₂ o₁
  expect_ok {κ = κ} {y = y} k q b t =
      let x = t.outcome in
      read_ok (mark.Token k) b t.kept
      (subst (λ s. Read true (one (mark.Token k)) s (conf p₁) (conf p₂)) (sym x.1) (took_read (mark.Token k) true x.0 p₁ p₂ q refl x.2))

  -- one that is decoded
  pub literal_ok : {κ : Span × B → A} {y : Span} (k : SyntaxKind) → token_refusal p₁.source.now (Token k y) ≡ None → Begun h n N (seq (one (mark.Token k)) M) κ p o p₁ o₁ → Takes (mark.Token k) There p₁ p₂ (Ok y) → Begun h (n + 1) N M (λ b. κ (y, b)) p o p₂ o₁
  literal_ok {κ = κ} {y = y} k q b t =
      let x = t.outcome in
      let fine : token_refusal p₁.source.now (Token k x.0) ≡ None = subst (λ s. token_refusal p₁.source.now (Token k s) ≡ None) x.1 q in
      read_ok (mark.Token k) b t.kept
      (subst (λ s. Read true (one (mark.Token k)) s (conf p₁) (conf p₂)) (sym x.1) (token_read k x.0 p₁ p₂ fine x.2))

  module _ {Y : Type 0} {d : Bool} {Post : A → Y → Type 0} {e : Refusal} where
    -- an event is not taken
    pub take_err : {Z : Type 0} {κ : Span × B → A} {At : Z → Span → Type 0} (m : Mark) → Viable M [] → Begun h n N (seq (one m) M) κ p o p₁ o₁ → Takes m At p₁ p₂ (Err e) → (r : Result Y Refusal) → IsErrAnd r (λ x. x ≡ e) → Builds d h N Post p o p₂ o₁ r
    take_err m v b t r i =
        stopped b.lent (kept_trans b.kept t.kept) (first_fails v b.within (failed m e p₁ p₂ t.outcome)) r i

    -- a token that was taken cannot be decoded
    pub literal_err : {κ : Span × B → A} {y : Span} (k : SyntaxKind) → token_refusal p₁.source.now (Token k y) ≡ Some e → Viable M [] → Begun h n N (seq (one (mark.Token k)) M) κ p o p₁ o₁ → Takes (mark.Token k) There p₁ p₂ (Ok y) → (r : Result Y Refusal) → IsErrAnd r (λ x. x ≡ e) → Builds d h N Post p o p₂ o₁ r
    literal_err k q v b t r i =
        let x = t.outcome in
        let why : token_refusal p₁.source.now (Token k x.0) ≡ Some e = subst (λ s. token_refusal p₁.source.now (Token k s) ≡ Some e) x.1 q in
        stopped b.lent (kept_trans b.kept t.kept) (first_fails v b.within (token_refused k x.0 e p₁ p₂ why x.2)) r i

    -- a production that is called fails
    pub call_err : {C Z : Type 0} {L : Sym C} {κ : C × B → A} {k : ℕ} {o₂ : Placer} {Q : C → Z → Type 0} → Viable M [] → Begun h n N (seq L M) κ p o p₁ o₁ → Builds true k L Q p₁ o₁ p₂ o₂ (Err e) → (r : Result Y Refusal) → IsErrAnd r (λ x. x ≡ e) → Builds d h N Post p o p₂ o₂ r
    call_err v b x r i =
        stopped (record { slots = x.lent.slots ∙ b.lent.slots; text = x.lent.text ∙ b.lent.text })
        (kept_trans b.kept x.parses.kept)
        (first_fails v b.within x.parses.outcome)
        r i

module _ {A Y Z : Type 0} {h n : ℕ} {N : Sym A} {κ : Span → A} {p p₁ p₂ : Reader} {o o₁ : Placer} {At : Z → Span → Type 0} {Post : A → Y → Type 0} where
  -- the last event is taken, or not
  pub last_ok : {y : Y} {z : Z} (m : Mark) → plain m ≡ true → Begun h n N (one m) κ p o p₁ o₁ → Takes m At p₁ p₂ (Ok z) → ((s : Span) → At z s → Post (κ s) y) → Builds (settles m) h N Post p o p₂ o₁ (Ok y)
  last_ok m q b t post =
      let x = t.outcome in
      let w = took_read m (settles m) x.0 p₁ p₂ q refl x.2 in
      record {
        lent = b.lent;
        parses =
            record {
              kept = kept_trans b.kept t.kept;
              outcome =
                  record {
                    value = κ x.0;
                    read = b.within.reads (settles m) x.0 (conf p₂) w;
                    fresh = fresh_if (settles m) p₂ x.2.fresh;
                    post = (one_left _ (read_spent (short_one m) w b.spent), post x.0 x.1);
                  };
            };
      }
    where
      fresh_if : (d : Bool) (p : Reader) → Fresh p → cond d (Unit {0}) (Fresh p)
      fresh_if true p f = tt
      fresh_if false p f = f

  pub last_err : {d : Bool} {e : Refusal} (m : Mark) → Begun h n N (one m) κ p o p₁ o₁ → Takes m At p₁ p₂ (Err e) → (r : Result Y Refusal) → IsErrAnd r (λ x. x ≡ e) → Builds d h N Post p o p₂ o₁ r
  last_err m b t r i =
      stopped b.lent (kept_trans b.kept t.kept) (fails b.within (failed _ _ p₁ p₂ t.outcome)) r i

-- the last event, whose answer is the production's
pub last_one : {A Y : Type 0} {h n : ℕ} {N : Sym A} {κ : Span → A} {p p₁ p₂ : Reader} {o o₁ : Placer} {At : Y → Span → Type 0} {Post : A → Y → Type 0} (m : Mark) (r : Result Y Refusal) → plain m ≡ true → Begun h n N (one m) κ p o p₁ o₁ → Takes m At p₁ p₂ r → ((s : Span) (y : Y) → At y s → Post (κ s) y) → Builds (settles m) h N Post p o p₂ o₁ r
last_one m (Ok y) q b t post = last_ok m q b t (λ s a. post s y a)
last_one m (Err e) q b t post = last_err m b t (Err e) refl

-- a name that ends a production
pub name_last : {A Y : Type 0} {h n : ℕ} {N : Sym A} {κ : Span → A} {p p₁ p₂ : Reader} {o o₁ : Placer} {y : Span} {z : Y} {Post : A → Y → Type 0} (m : Mark) → Begun h n N (one m) κ p o p₁ o₁ → Parses true (one m) (λ s y. y ≡ s) p₁ p₂ (Ok y) → Post (κ y) z → Builds true h N Post p o p₂ o₁ (Ok z)
name_last {N = N} {κ = κ} {p₁ = p₁} {p₂ = p₂} {z = z} {Post = Post} m b t post =
    let x = t.outcome in
    record {
      lent = b.lent;
      parses =
          record {
            kept = kept_trans b.kept t.kept;
            outcome =
                record {
                  value = κ x.value;
                  read = b.within.reads true x.value (conf p₂) x.read;
                  fresh = tt;
                  post = (one_left _ (read_spent (short_one m) x.read b.spent), subst (λ s. Post (κ s) z) x.post post);
                };
          };
    }

-- what a float is tested for
pub float_refusal : (source : List ℕ) (s : Span) (r : Result Float Refusal) → r ≡ float_of source s → token_refusal source (Token FLOAT_LIT s) ≡ refusal_in r
unfolding token_refusal
float_refusal source s r e = ap refusal_in (sym e)

pub regexp_refusal : (source : List ℕ) (s : Span) (r : Result Regexp Refusal) → r ≡ regexp_of source s → token_refusal source (Token REGEXP s) ≡ refusal_in r
unfolding token_refusal
regexp_refusal source s r e = ap refusal_in (sym e)

pub integer_refusal : (source : List ℕ) (s : Span) (r : Result Integer Refusal) → r ≡ integer_of source s → token_refusal source (Token INTEGER_LIT s) ≡ refusal_in r
unfolding token_refusal
integer_refusal source s r e = ap refusal_in (sym e)

-- what is decoded of the source
pub of_source : {V : Type 0} (f : List ℕ → Span → Result V Refusal) (s : Span) {p p₁ : Reader} {r : Result V Refusal} → Kept p p₁ → r ≡ f p₁.source.now s → r ≡ f p.source.now s
of_source f s k e = e ∙ ap (λ x. f x.now s) k.source

-- the trees of literals
pub float_made : (x : Float) (s : Span) (source : List ℕ) {m : Memory} {root : Slot} → Ok x ≡ float_of source s → root ≡ slot_of (float_label x s) 0 0 0 → Pending (float_tree (float_of source s) s) m root m
float_made x s source {m = m} {root = root} e f =
    subst (λ r. Pending (float_tree r s) m root m) e (leaf_pending_at (float_label x s) m root refl f)

pub regexp_made : (x : Regexp) (s : Span) (source : List ℕ) {m : Memory} {root : Slot} → Ok x ≡ regexp_of source s → root ≡ slot_of (regexp_label x s) 0 0 0 → Pending (regexp_tree (regexp_of source s) s) m root m
regexp_made x s source {m = m} {root = root} e f =
    subst (λ r. Pending (regexp_tree r s) m root m) e (leaf_pending_at (regexp_label x s) m root refl f)

pub integer_made : (x : Integer) (s : Span) (source : List ℕ) {m : Memory} {root : Slot} → Ok x ≡ integer_of source s → root ≡ slot_of (integer_label x s) 0 0 0 → Pending (integer_tree (integer_of source s) s) m root m
integer_made x s source {m = m} {root = root} e f =
    subst (λ r. Pending (integer_tree r s) m root m) e (leaf_pending_at (integer_label x s) m root refl f)

-- by a rule, and after a look
pub ruled : {A B C : Type 0} {h n : ℕ} {N : Sym A} {M : Sym B} {M' : Sym C} {κ : B → A} {into : C → B} {p p₁ : Reader} {o o₁ : Placer} → RuleAt M M' into (conf p₁).rest → Begun h n N M κ p o p₁ o₁ → Begun h n N M' (λ c. κ (into c)) p o p₁ o₁
ruled l b = record { lent = b.lent; kept = b.kept; within = by_rule_at l b.within; spent = b.spent }

pub looked : {A B : Type 0} {h n : ℕ} {N : Sym A} {M : Sym B} {κ : B → A} {p p₁ p₂ : Reader} {o o₁ : Placer} {m : Mark} {b : Bool} → Saw m p₁ p₂ b → Begun h n N M κ p o p₁ o₁ → Begun h n N M κ p o p₂ o₁
looked w b =
    record {
      lent = b.lent;
      kept = kept_trans b.kept w.kept;
      within = moved b.within w.same;
      spent =
          record {
            count = omega (arith, b.spent.count, ap (λ (c : Conf). length c.rest) w.same);
            place = λ l. omega (arith, b.spent.place l, ap (λ (c : Conf). c.state.last) w.same);
          };
    }
