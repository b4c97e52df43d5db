use Rattle.std.proofs.Common.{◌≡◌, map, option_map, slice_get, sym, ap, ◌∙◌, arith}
use Rattle.std.proofs.lemmas.Option.{slice_get-map}
use Rattle.kinds.specs.Kinds.{kind_of}
use Rattle.kinds.proofs.Inverse.{kind_of_number, numbered}
use Rattle.kinds.proofs.Naming.{mapped, row_at}
use Rattle.kinds.proofs.kind.SyntaxKind.from_number.Goals as goal

pub returns : goal.returns
returns c =
    let rows = c.as_slice.result.now in
    let n = c.from.result in
    let kind : c.map.result ≡ option_map (λ r. r.now.0) c.get.result = grind (arith, c.map.ensures.cases) in
    let value : c.map.result ≡ kind_of c.args.number =
    kind ∙ mapped c.get.result ∙ ap (option_map (λ p. p.0)) (row_at rows n c.get.result c.get.ensures.lookup) ∙ sym (slice_get-map (λ p. p.0) rows n)
    ∙ ap (λ rows. slice_get (map (λ p. p.0) rows) n) c.as_slice.ensures ∙ ap kind_of c.from.ensures in
    record { value = value; some = λ k e. value ∙ ap kind_of e ∙ kind_of_number k; back = numbered c.args.number c.map.result value }
