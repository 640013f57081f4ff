-- The bytes that a caller sets aside for a box, and their alignment: include/gate.h states these numbers. Assumes nothing.
use mathlib.Core.Path.{◌≡◌, refl}
use prog.Memory.{size, align}
use Rattle.door.proofs.BoxRecord.TheLaws as T'

box-size : size T'.mir ≡ 51864
box-size = refl

box-align : align T'.mir ≡ 8
box-align = refl
