-- Whether two windows of CUBIC are equal, field by field.
use Rattle.std.proofs.Common.{◌≡◌, Bool, true, false, refl}
use Rattle.std.specs.Prelude.{◌&&◌}

-- what is joined from the left is joined from the right
joined : (a b c d e f g h : Bool)
    → (((((((a && b) && c) && d) && e) && f) && g) && h) ≡ (a && (b && (c && (d && (e && (f && (g && h)))))))
joined false b c d e f g h = refl
joined true false c d e f g h = refl
joined true true false d e f g h = refl
joined true true true false e f g h = refl
joined true true true true false f g h = refl
joined true true true true true false g h = refl
joined true true true true true true false h = refl
joined true true true true true true true h = refl

turned : (a b : Bool) → (a && b) ≡ (b && a)
turned false false = refl
turned false true = refl
turned true false = refl
turned true true = refl

-- so is what is compared step by step, of which the last one comes first
pub compared : (a b c d e f g h i s t u v w x y z all : Bool)
    → s ≡ a → t ≡ (s && b) → u ≡ (t && c) → v ≡ (u && d) → w ≡ (v && e) → x ≡ (w && f) → y ≡ (x && g) → z ≡ (y && h) → all ≡ (z && i)
    → all ≡ (i && (a && (b && (c && (d && (e && (f && (g && h))))))))
compared a b c d e f g h i s t u v w x y z all first second third fourth fifth sixth seventh eighth ninth =
    let whole = joined a b c d e f g h in let last = turned z i in cc
