use Rattle.tcp_numbers.proofs.LaneSums.{load_is}
use Rattle.kit_text.proofs.DigitPairs.{lanes_join}
use Rattle.kit_text.proofs.hexadecimal.join.Goals as goal

pub returns : goal.returns
returns c =
    let v = c.args.values in
    lanes_join 16 v _ (load_is 16 v c.fits-values.0 c.fits-values.1) c.fits-values.0 c.fits-values.1
