use Rattle.std.proofs.Common.{◌≡◌, cond, ◌++◌, is_ok, vec_items, ap, ◌∙◌}
use Rattle.source.specs.Records.{record_of}
use Rattle.source.proofs.RoundTrip.{append_more}
use Rattle.source.proofs.pack.append.Goals as goal

pub returns : goal.returns
returns c =
    let old = vec_items c.args.bytes.now in
    let after : vec_items c.extend_from_slice.new.self ≡ cond (is_ok c.extend_from_slice.result) (old ++ record_of c.args.event) old =
    c.extend_from_slice.ensures.items ∙ ap (λ more. cond (is_ok c.extend_from_slice.result) (old ++ more) old) c.record.ensures in
    record { items = after; ok = append_more old _ c.args.event _ after }
