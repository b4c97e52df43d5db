use Rattle.std.proofs.Common.{◌^◌, ◌<◌, length, arith, rules}
use Rattle.source.proofs.Fronts.{events_few}
use Rattle.source.proofs.packed.PackedEventSource.look.Goals as goal

pub returns-clause-bound : goal.returns-clause-bound
returns-clause-bound c =
    let fits : length c.args.self.now.bytes.now < 2 ^ 64 = search rules in omega (arith, events_few c.args.self.now.bytes.now 0, fits)
