-- What the steps of a reader do.
use Rattle.std.proofs.Common.{◌≡◌, ◌<◌, [], length, get_or, take, drop, Option, sym, ap, ◌∙◌, subst, inl, inr, arith}
use Rattle.std.specs.List.{slice_get}
use Rattle.std.specs.Option as options
use Rattle.std.proofs.lemmas.Option.{slice_get_cases}
use Rattle.syntax.specs.declared.event.Event.{Event}
use Rattle.grammar.specs.Extents.{visible}
use Rattle.reader.specs.declared.reader.Reader.{Reader}
use Rattle.reader.specs.Contract.{conf, state_of, Kept, Stops, Shown, Peeked}
use Rattle.reader.proofs.Rows.{Seen, next, next_rest, next_past, next_seen, seen_rest, seen_past, seen_errors, seen_none, end_rest, end_errors}

shown : (p : Reader) (d : Event) → p.at < length p.row.now → Seen (get_or p.row.now p.at d) → Shown p (get_or p.row.now p.at d)
shown p d h n =
    record { less = h; front = seen_rest p.row.now p.at d h n; past = seen_past p.row.now p.at d h n; errors = seen_none p.row.now p.at d h n }

-- a reader stands where the next visible event does, and shows what stands there
pub peeked : (p p' : Reader) (r : Option Event) → Kept p p' → p'.at ≡ next p.row.now p.at → p'.last ≡ p.last → p'.opens ≡ p.opens → r ≡ slice_get p'.row.now p'.at → Peeked p p' r
peeked p p' r k a l o e = record { kept = k; same = same; shown = shows.0; stops = shows.1 }
  where
    row : p'.row.now ≡ p.row.now
    row = ap (λ r. r.now) k.row

    same : conf p' ≡ conf p
    same =
        let source : p'.source.now ≡ p.source.now = ap (λ r. r.now) k.source in
        let rest : visible (drop p'.at p'.row.now) ≡ visible (drop p.at p.row.now) = rw (row, a) (next_rest p.row.now p.at) in
        let past : visible (take p'.at p'.row.now) ≡ visible (take p.at p.row.now) = rw (row, a) (next_past p.row.now p.at) in
        λ i. record { rest = rest i; state = record { source = source i; past = past i; last = l i; opens = o i } }

    seen : (x : Event) → p'.at < length p'.row.now → Seen (get_or p'.row.now p'.at x)
    seen x h = rw (row, a) (next_seen p.row.now p.at x (omega (arith, a, ap length row)))

    shows : options.MatchOption r ((conf p').rest ≡ []) (λ x. Shown p' x) × Stops p' (state_of p').past
    shows =
        elim (slice_get_cases p'.row.now p'.at).1 [
          | inl c ↦ (subst (λ o. options.MatchOption o ((conf p').rest ≡ []) (λ x. Shown p' x)) (sym (e ∙ c.2)) (subst (λ x. Shown p' x) c.3 (shown p' c.0 c.1 (seen c.0 c.1))), seen_errors p'.row.now p'.at c.0 c.1 (seen c.0 c.1))
          | inr c ↦ (subst (λ o. options.MatchOption o ((conf p').rest ≡ []) (λ x. Shown p' x)) (sym (e ∙ c.1)) (end_rest p'.row.now p'.at c.0), end_errors p'.row.now p'.at c.0)
        ]
