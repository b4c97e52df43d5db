use Rattle.std.proofs.Common.{refl}
use Rattle.source.proofs.OneWay.{read_one_way}
use Rattle.source.proofs.packed.Packed.new.Goals as goal

pub returns : goal.returns
returns c = record { value = refl; cases = read_one_way }
