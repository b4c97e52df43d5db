-- What the grammar sees of a row.
use Rattle.std.proofs.Common.{◌≡◌, ℕ, zero, suc, Some, slice_get, ◌+◌, ◌<◌, ◌≤◌, false, List, [], ◌∷◌, ◌++◌, length, get_or, take, drop, sym, refl, ap, ◌∙◌, add-one, one-add, arith, length-drop, take-suc, take-add, drop-drop, get_or-drop}
use Rattle.std.specs.List.{prefix_len}
use lib.Seq.{split_at}
use Rattle.std.proofs.lemmas.List.{append-nil, drop_more, drop_all, take_all}
use Rattle.std.proofs.lemmas.List.Sums.{prefix_len_stops}
use Rattle.syntax.specs.declared.event.Event.{Event}
use Rattle.syntax.specs.declared.event.Event.TheVariants.{Error, Begin, End, Token}
use Rattle.grammar.specs.declared.entry.Entry.{Entry}
use Rattle.grammar.specs.Extents.{visible, entries_in, entries_before}
use Rattle.reader.specs.States.{is_error}

pub visible-++ : (xs ys : List Event) → visible (xs ++ ys) ≡ visible xs ++ visible ys
visible-++ [] ys = refl
visible-++ (Error m s ∷ xs) ys = visible-++ xs ys
visible-++ (Begin k s ∷ xs) ys = ap (λ v. Begin k s ∷ v) (visible-++ xs ys)
visible-++ (End k s ∷ xs) ys = ap (λ v. End k s ∷ v) (visible-++ xs ys)
visible-++ (Token k s ∷ xs) ys = ap (λ v. Token k s ∷ v) (visible-++ xs ys)

-- an event that is no Error event
abbrev pub Seen : Event → Type 0
Seen e = is_error e ≡ false

visible_seen : (e : Event) (xs : List Event) → Seen e → visible (e ∷ xs) ≡ e ∷ visible xs
visible_seen (Error m s) xs n = cc
visible_seen (Begin k s) xs n = refl
visible_seen (End k s) xs n = refl
visible_seen (Token k s) xs n = refl

-- the Error events in front of a visible event, or of the end
before_seen : (xs : List Event) (e : Event) (ys : List Event) → Seen e → entries_before (length (visible xs)) (xs ++ (e ∷ ys)) ≡ entries_in xs
before_seen [] (Error m s) ys n = cc
before_seen [] (Begin k s) ys n = refl
before_seen [] (End k s) ys n = refl
before_seen [] (Token k s) ys n = refl
before_seen (Error m s ∷ xs) e ys n = ap (λ (es : List Entry). record { number = 0; message = m; span = s } ∷ es) (before_seen xs e ys n)
before_seen (Begin k s ∷ xs) e ys n = before_seen xs e ys n
before_seen (End k s ∷ xs) e ys n = before_seen xs e ys n
before_seen (Token k s ∷ xs) e ys n = before_seen xs e ys n

before_end : (xs : List Event) → entries_before (length (visible xs)) xs ≡ entries_in xs
before_end [] = refl
before_end (Error m s ∷ xs) = ap (λ (es : List Entry). record { number = 0; message = m; span = s } ∷ es) (before_end xs)
before_end (Begin k s ∷ xs) = before_end xs
before_end (End k s ∷ xs) = before_end xs
before_end (Token k s ∷ xs) = before_end xs

entries_seen : (xs : List Event) (e : Event) → Seen e → entries_in (xs ++ (e ∷ [])) ≡ entries_in xs
entries_seen [] (Error m s) n = cc
entries_seen [] (Begin k s) n = refl
entries_seen [] (End k s) n = refl
entries_seen [] (Token k s) n = refl
entries_seen (Error m s ∷ xs) e n = ap (λ (es : List Entry). record { number = 0; message = m; span = s } ∷ es) (entries_seen xs e n)
entries_seen (Begin k s ∷ xs) e n = entries_seen xs e n
entries_seen (End k s ∷ xs) e n = entries_seen xs e n
entries_seen (Token k s ∷ xs) e n = entries_seen xs e n

-- the Error events that a row begins with are not seen
rest_seen : (xs : List Event) → visible (drop (prefix_len is_error xs) xs) ≡ visible xs
rest_seen [] = refl
rest_seen (Error m s ∷ xs) = rw one-add (rest_seen xs)
rest_seen (Begin k s ∷ xs) = refl
rest_seen (End k s ∷ xs) = refl
rest_seen (Token k s ∷ xs) = refl

front_unseen : (xs : List Event) → visible (take (prefix_len is_error xs) xs) ≡ []
front_unseen [] = refl
front_unseen (Error m s ∷ xs) = rw one-add (front_unseen xs)
front_unseen (Begin k s ∷ xs) = refl
front_unseen (End k s ∷ xs) = refl
front_unseen (Token k s ∷ xs) = refl

module _ (row : List Event) (i : ℕ) where
  -- where the next event that is seen stands, if there is one
  abbrev pub next : ℕ
  next = i + prefix_len is_error (drop i row)

  pub next_rest : visible (drop next row) ≡ visible (drop i row)
  next_rest = sym (ap visible (drop-drop (prefix_len is_error (drop i row)) i row)) ∙ rest_seen (drop i row)

  pub next_past : visible (take next row) ≡ visible (take i row)
  next_past =
      ap visible (take-add i (prefix_len is_error (drop i row)) row) ∙ visible-++ (take i row) _
      ∙ ap (λ v. visible (take i row) ++ v) (front_unseen (drop i row))
      ∙ append-nil (visible (take i row))

  pub next_seen : (d : Event) → next < length row → Seen (get_or row next d)
  next_seen d h =
      ap is_error (sym (get_or-drop i row (prefix_len is_error (drop i row)) d))
      ∙ prefix_len_stops is_error (drop i row) d (omega (arith, length-drop i row))

module _ (row : List Event) (i : ℕ) (d : Event) (h : i < length row) (n : Seen (get_or row i d)) where
  -- one event more
  taken : take (i + 1) row ≡ take i row ++ (get_or row i d ∷ [])
  taken = ap (λ n. take n row) (add-one i) ∙ take-suc row i d h

  pub seen_rest : visible (drop i row) ≡ get_or row i d ∷ visible (drop (i + 1) row)
  seen_rest = ap visible (drop_more row i d h) ∙ visible_seen (get_or row i d) (drop (i + 1) row) n

  pub seen_past : visible (take (i + 1) row) ≡ visible (take i row) ++ (get_or row i d ∷ [])
  seen_past =
      ap visible taken ∙ visible-++ (take i row) (get_or row i d ∷ [])
      ∙ ap (λ v. visible (take i row) ++ v) (visible_seen (get_or row i d) [] n)

  pub seen_errors : length (entries_in (take i row)) ≡ length (entries_before (length (visible (take i row))) row)
  seen_errors =
      sym (ap length (ap (λ r. entries_before (length (visible (take i row))) r) (split_at row i d h) ∙ before_seen (take i row) (get_or row i d) _ n))

  pub seen_none : length (entries_in (take (i + 1) row)) ≡ length (entries_in (take i row))
  seen_none = ap (λ r. length (entries_in r)) taken ∙ ap length (entries_seen (take i row) (get_or row i d) n)

pub end_rest : (row : List Event) (i : ℕ) → length row ≤ i → visible (drop i row) ≡ []
end_rest row i h = ap visible (drop_all i row h)

pub end_errors : (row : List Event) (i : ℕ) → length row ≤ i → length (entries_in (take i row)) ≡ length (entries_before (length (visible (take i row))) row)
end_errors row i h =
    let t = take_all i row h in
    ap (λ r. length (entries_in r)) t ∙ sym (ap length (ap (λ r. entries_before (length (visible r)) row) t ∙ before_end row))

-- where no Error event comes next, the next visible event is at hand
pub none_ahead : (row : List Event) (i : ℕ) (e : Event) → slice_get row i ≡ Some e → Seen e → prefix_len is_error (drop i row) ≡ 0
none_ahead [] i e s n = cc
none_ahead (x ∷ row) zero e s n = let same : x ≡ e = cc in rw (same, n) refl
none_ahead (x ∷ row) (suc i) e s n = none_ahead row i e s n

entries-++ : (xs ys : List Event) → length (entries_in (xs ++ ys)) ≡ length (entries_in xs) + length (entries_in ys)
entries-++ [] ys = omega arith
entries-++ (Error m s ∷ xs) ys = omega (arith, entries-++ xs ys)
entries-++ (Begin k s ∷ xs) ys = entries-++ xs ys
entries-++ (End k s ∷ xs) ys = entries-++ xs ys
entries-++ (Token k s ∷ xs) ys = entries-++ xs ys

pub entries_few : (xs : List Event) → length (entries_in xs) ≤ length xs
entries_few [] = omega arith
entries_few (Error m s ∷ xs) = omega (arith, entries_few xs)
entries_few (Begin k s ∷ xs) = omega (arith, entries_few xs)
entries_few (End k s ∷ xs) = omega (arith, entries_few xs)
entries_few (Token k s ∷ xs) = omega (arith, entries_few xs)

-- one event more
pub entries_more : (row : List Event) (i : ℕ) (d : Event) → i < length row → length (entries_in (take (i + 1) row)) ≡ length (entries_in (take i row)) + length (entries_in (get_or row i d ∷ []))
entries_more row i d h =
    ap (λ r. length (entries_in r)) (ap (λ n. take n row) (add-one i) ∙ take-suc row i d h) ∙ entries-++ (take i row) (get_or row i d ∷ [])
