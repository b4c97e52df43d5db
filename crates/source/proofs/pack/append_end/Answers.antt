use Rattle.std.proofs.Common.{vec_items}
use Rattle.source.proofs.RoundTrip.{append_means}
use Rattle.source.proofs.pack.append_end.Goals as goal

pub returns : goal.returns
returns c =
    record {
      items = c.extend_from_slice.ensures.items;
      ok = append_means (vec_items c.args.bytes.now) _ _ c.extend_from_slice.ensures.items;
    }
