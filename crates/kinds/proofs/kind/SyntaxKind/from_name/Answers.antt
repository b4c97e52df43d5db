use Rattle.std.proofs.Common.{◌≡◌, map, option_map, slice_get, bytes_eq, refl, ap, ◌∙◌, arith, rules, tests}
use Rattle.std.specs.Slice.Iter.{iter_rest}
use Rattle.std.proofs.lemmas.Iterator.{YieldsList-from_slice}
use Rattle.std.proofs.lemmas.Iterator.Search.{find_from_yields_List}
use Rattle.kinds.specs.Kinds.{kind_of}
use Rattle.kinds.specs.Names.{names, place_of, kind_named}
use Rattle.kinds.proofs.Inverse.{kind_of_number}
use Rattle.kinds.proofs.Naming.{name_place, row_named, mapped}
use Rattle.kinds.proofs.kind.SyntaxKind.from_name.Goals as goal

pub returns : goal.returns
returns c =
    let t = c.args.name.now in
    let rows = iter_rest c.iter.result in
    let row = find_from_yields_List (λ p. bytes_eq p.1.now t) _ _ c.find.result c.find.ensures.ran (YieldsList-from_slice rows refl) (λ x b q k. search (rules, tests)) in
    let kind : c.map.result ≡ option_map (λ r. r.now.0) c.find.result = grind (arith, c.map.ensures.cases) in
    let value : c.map.result ≡ kind_named t =
    kind ∙ mapped c.find.result ∙ ap (option_map (λ p. p.0)) row ∙ row_named t rows
    ∙ ap (λ rows. slice_get (map (λ p. p.0) rows) (place_of t (map (λ p. p.1.now) rows))) c.iter.ensures.rest in
    record { value = value; some = λ k e. value ∙ ap (λ t. kind_of (place_of t names)) e ∙ ap kind_of (name_place k) ∙ kind_of_number k }
