-- What `decode` and `parse` return, from what their function computes. `says` is the content of a value of the code.
use Rattle.std.proofs.Common.{◌≡◌, ℕ, ◌≤◌, List, length, Result, Ok, Err, sym, ap, subst, ◌∙◌, arith, length-append, length-drop}
use Rattle.std.specs.Prelude.{◌↔◌, MatchResult, IfOk, IsOkAnd}
use Rattle.tcp_wire.specs.declared.fault.DecodeError.{DecodeError}
use Rattle.tcp_wire.specs.declared.fault.DecodeError.TheVariants.{BadChecksum}
use Rattle.tcp_numbers.specs.Checksum.{AreBytes, DiffersInOnePlace}
use Rattle.tcp_wire.specs.Wire.{Content, IsWire, max_text_len, option_bytes}
use Rattle.tcp_wire.specs.Fault.{FirstFault}
use Rattle.tcp_wire.specs.Decoded.{decode_answer}
use Rattle.tcp_wire.proofs.Reading.{Explains, explained, complete, faulty, damaged}

abbrev Value : Content → Result Content DecodeError
Value v = Ok v

abbrev Fault : DecodeError → Result Content DecodeError
Fault e = Err e

-- the answer is what the function computes
abbrev pub Computes : {A : Type 0} → (A → Content) → Result Content DecodeError → Result A DecodeError → Type 0
Computes says read r = MatchResult r (λ s. read ≡ Ok (says s)) (λ e. read ≡ Err e)

same_value : (v w : Content) → Value v ≡ Value w → v ≡ w
same_value v w e = cc

same_fault : (d e : DecodeError) → Fault d ≡ Fault e → d ≡ e
same_fault d e h = cc

pub value_of : {A : Type 0} (says : A → Content) (src dst bytes : List ℕ) (r : Result A DecodeError) → AreBytes bytes → Computes says (decode_answer src dst bytes) r
    → (v : Content) → IsOkAnd r (λ s. says s ≡ v) ↔ IsWire src dst v bytes
value_of says src dst bytes (Ok s) fits read v = (
  (λ e. subst (λ (x : Content). IsWire src dst x bytes) e (subst (Explains src dst bytes) read (explained src dst bytes fits))),
  (λ w. same_value (says s) v (sym read ∙ complete src dst v bytes w)),
)
value_of says src dst bytes (Err e) fits read v = (
  (λ none. absurd none),
  (λ w. let clash : Fault e ≡ Value v = sym read ∙ complete src dst v bytes w in absurd cc),
)

pub fault_of : {A : Type 0} (says : A → Content) (src dst bytes : List ℕ) (r : Result A DecodeError) → AreBytes bytes → Computes says (decode_answer src dst bytes) r
    → (e : DecodeError) → (r ≡ Err e) ↔ FirstFault src dst bytes e
fault_of says src dst bytes (Ok s) fits read e = (
  (λ h. absurd cc),
  (λ f. let clash : Value (says s) ≡ Fault e = sym read ∙ faulty src dst bytes e fits f in absurd cc),
)
fault_of says src dst bytes (Err d) fits read e = (
  (λ h. let same : d ≡ e = cc in subst (λ (x : DecodeError). FirstFault src dst bytes x) same (subst (Explains src dst bytes) read (explained src dst bytes fits))),
  (λ f. ap (λ (x : DecodeError). Err x) (same_fault d e (sym read ∙ faulty src dst bytes e fits f))),
)

pub damaged_of : {A : Type 0} (says : A → Content) (src dst : List ℕ) (v : Content) (sent bytes : List ℕ) (r : Result A DecodeError) → Computes says (decode_answer src dst bytes) r
    → IsWire src dst v sent → DiffersInOnePlace sent bytes → r ≡ Err BadChecksum
damaged_of says src dst v sent bytes (Ok s) read w d =
    let clash : Value (says s) ≡ Fault BadChecksum = sym read ∙ damaged src dst v sent bytes w d in absurd cc
damaged_of says src dst v sent bytes (Err e) read w d =
    ap (λ (x : DecodeError). Err x) (same_fault e BadChecksum (sym read ∙ damaged src dst v sent bytes w d))

-- after the header there is room for text of this length
pub text_fits : (src dst : List ℕ) (v : Content) (bytes : List ℕ) → IsWire src dst v bytes → length v.text ≤ max_text_len
text_fits src dst v bytes w =
    omega (arith, w.least, w.most, ap length w.behind, length-append (option_bytes v) v.text, length-drop 20 bytes)

pub short_of : {A : Type 0} (says : A → Content) (src dst bytes : List ℕ) (r : Result A DecodeError) → AreBytes bytes
    → Computes says (decode_answer src dst bytes) r → IfOk r (λ s. length (says s).text ≤ max_text_len)
short_of says src dst bytes (Ok s) fits read = text_fits src dst (says s) bytes (subst (Explains src dst bytes) read (explained src dst bytes fits))
short_of says src dst bytes (Err e) fits read = tt
