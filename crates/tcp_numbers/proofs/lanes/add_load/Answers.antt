use Rattle.std.proofs.Common.{take, w8}
use Rattle.std.proofs.lemmas.Simd.{chunk-fits, length-chunk}
use Rattle.tcp_numbers.proofs.LaneSums.{load_is, load_sum, load_most}
use Rattle.tcp_numbers.proofs.lanes.add_load.Goals as goal

pub returns-clause-sum : goal.returns-clause-sum
returns-clause-sum c =
    let bytes = c.args.bytes.now in
    let len = length-chunk 0 32 bytes c.requires.room in
    let fits = chunk-fits w8 0 32 bytes c.type_inv.bytes in
    load_sum 16 c.args.mixed c.args.lows _ (take 32 bytes) (load_is 16 (take 32 bytes) len fits) c.fits-mixed.0 c.fits-lows.0 len c.requires.most fits

pub returns-clause-most : goal.returns-clause-most
returns-clause-most c = λ n low.
    let bytes = c.args.bytes.now in
    let len = length-chunk 0 32 bytes c.requires.room in
    let fits = chunk-fits w8 0 32 bytes c.type_inv.bytes in
    load_most 16 n c.args.mixed c.args.lows _ (take 32 bytes) (load_is 16 (take 32 bytes) len fits) c.fits-mixed.0 c.fits-lows.0 len c.requires.most fits low
