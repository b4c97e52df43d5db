-- What the reading calls answer of a tree that slots hold.
use Rattle.std.proofs.Common.{◌≡◌, ℕ, suc, ◌+◌, false, cond, List, length, Option, sym, refl, ap, ◌∙◌, subst, inl, inr, add-one, arith}
use Rattle.std.specs.Option.{option_map}
use Rattle.syntax.specs.declared.span.Span.{Span}
use Rattle.tree.specs.declared.read.Origin.TheVariants.{Source, Decoded}
use Rattle.tree.specs.declared.slot.Slot.{Slot}
use Rattle.tree.specs.Labels.{Name, Label, is_decoded, flag_number}
use Rattle.tree.specs.Labels.Name.{in_source, decoded}
use Rattle.tree.specs.Parts.{cut}
use Rattle.tree.specs.Reads.{Leaf, Reading, has, bytes_of, reading_of, leaf_in, leaf_at, leaf_of, operands_at, operands_of, Siblings}
use Rattle.tree.specs.Reads.Siblings.{stop, onward}
use Rattle.tree.specs.Reads.Reading.{as_name, as_string, as_regexp, as_number, not_read}
use Rattle.tree.specs.Reads.Leaf.{name, string, regexp, number}
use Rattle.tree.specs.Trees.{Trees}
use Rattle.tree.specs.Trees.Trees.{none, more}
use Rattle.tree.specs.Holds.{Names, Shows, Chain, bytes_named}
use Rattle.tree.specs.Tells.{origin_named, leaf_said, Decodes, Tells, count, Counts}
use Rattle.tree.proofs.Flags.{flagged, unsigned_read, insensitive_read, dot_read, decoded_read}
use Rattle.tree.proofs.Counts.{runs}

-- what a slot's flags say of a label
record Flagged (s : Slot) (l : Label) : Type 0 where
  unsigned : has 1 s ≡ l.flags.unsigned
  insensitive : has 2 s ≡ l.flags.case_insensitive
  dot : has 4 s ≡ l.flags.dot_matches_new_line
  in_text : has 32 s ≡ is_decoded l.name

flags_say : (s : Slot) (l : Label) → s.flags ≡ flag_number l.flags (is_decoded l.name) → Flagged s l
flags_say s l e =
    record {
      unsigned = ap (flagged 1) e ∙ unsigned_read l.flags (is_decoded l.name);
      insensitive = ap (flagged 2) e ∙ insensitive_read l.flags (is_decoded l.name);
      dot = ap (flagged 4) e ∙ dot_read l.flags (is_decoded l.name);
      in_text = ap (flagged 32) e ∙ decoded_read l.flags (is_decoded l.name);
    }

-- a name in the source
plain_bytes :
    (source text : List ℕ) (p : Span) (x : Name) → is_decoded x ≡ false → Names text p x → cut source p ≡ bytes_named source x
plain_bytes source text p (in_source q) e h = ap (cut source) h
plain_bytes source text p (decoded bytes) e h = absurd (let z : ◌≡◌ {A = ℕ} 0 1 = cc in omega arith)

string_bytes :
    (source text : List ℕ) (s : Slot) (x : Name) → has 32 s ≡ is_decoded x → Names text s.name x →
    leaf_in as_string s source text ≡ option_map (λ p. string (origin_named x) p s.name.start) (bytes_named source x)
string_bytes source text s (in_source q) e h =
    ap
    (λ b.
    option_map (λ p. string (cond b Decoded Source) p s.name.start) (cut (bytes_of (cond b Decoded Source) source text) s.name))
    e
    ∙ ap (λ p. option_map (λ x. string Source x s.name.start) (cut source p)) h
string_bytes source text s (decoded bytes) e h =
    ap
    (λ b.
    option_map (λ p. string (cond b Decoded Source) p s.name.start) (cut (bytes_of (cond b Decoded Source) source text) s.name))
    e
    ∙ ap (λ o. option_map (λ x. string Decoded x s.name.start) o) h

not_string : (l : Label) (k : Reading) → reading_of l.kind ≡ k → (k ≡ as_string → ⊥) → Decodes l → is_decoded l.name ≡ false
not_string l k e f (inl p) = absurd (f (sym e ∙ p))
not_string l k e f (inr q) = q

said :
    (source text : List ℕ) (s : Slot) (l : Label) → Shows text s l → Decodes l → (k : Reading) → reading_of l.kind ≡ k →
    leaf_in k s source text ≡ leaf_said k source l s.name.start
said source text s l h d as_name e =
    ap (option_map name)
    (plain_bytes source text s.name l.name
    (not_string l as_name e (λ q. let z : ◌≡◌ {A = ℕ} 0 1 = cc in omega arith) d)
    h.name)
said source text s l h d as_string e = string_bytes source text s l.name (flags_say s l h.flags).in_text h.name
said source text s l h d as_regexp e =
    let f = flags_say s l h.flags in
    ap (λ b. option_map (λ p. regexp p b (has 4 s)) (cut source s.name)) f.insensitive
    ∙ ap (λ b. option_map (λ p. regexp p l.flags.case_insensitive b) (cut source s.name)) f.dot
    ∙ ap (option_map (λ p. regexp p l.flags.case_insensitive l.flags.dot_matches_new_line))
    (plain_bytes source text s.name l.name
    (not_string l as_regexp e (λ q. let z : ◌≡◌ {A = ℕ} 0 1 = cc in omega arith) d)
    h.name)
said source text s l h d as_number e =
    let f = flags_say s l h.flags in
    ap (λ b. option_map (λ p. number s.value b p) (cut source s.name)) f.unsigned
    ∙ ap (λ v. option_map (λ p. number v l.flags.unsigned p) (cut source s.name)) h.value
    ∙ ap (option_map (λ p. number l.value l.flags.unsigned p))
    (plain_bytes source text s.name l.name
    (not_string l as_number e (λ q. let z : ◌≡◌ {A = ℕ} 0 1 = cc in omega arith) d)
    h.name)
said source text s l h d not_read e = refl

pub tells_from :
    (slots : List Slot) (n : ℕ) (source text : List ℕ) (r : Option Leaf) → r ≡ leaf_of slots n source text →
    Tells slots n source text r
tells_from slots n source text r e l ts h d = (
  h.0.name.start,
  e ∙ ap (λ o. leaf_at o source text) h.1
      ∙ ap (λ k. leaf_in (reading_of k) h.0 source text) h.2.kind
      ∙ said source text h.0 l h.2 d (reading_of l.kind) refl,
)

siblings :
    (slots : List Slot) (text : List ℕ) (link : ℕ) (ts : Trees) → Chain slots text link ts → Siblings slots link (count ts)
siblings slots text link none h = subst (λ k. Siblings slots k 0) (sym h) stop
siblings slots text link (more t ts) h =
    let S : ℕ → Type 0 = λ k. Siblings slots k (count ts + 1) in
    let next : Siblings slots (suc h.0) (suc (count ts)) =
    onward h.3 (siblings slots text h.1.next ts h.5) in
    let at_link : suc h.0 ≡ link = sym (h.2 ∙ add-one h.0) in
    subst S at_link (subst (λ k. Siblings slots (suc h.0) k) (sym (add-one (count ts))) next)

pub counts_from : (slots : List Slot) (n : ℕ) (r : Option ℕ) → r ≡ operands_of slots n → Counts slots n r
counts_from slots n r e text l ts h few =
    e ∙ ap (operands_at slots) h.1 ∙ runs slots (length slots) (siblings slots text h.0.first ts h.3) few
