use Rattle.std.proofs.Common.{◌≡◌, ℕ, List, [], drop, inl, refl, subst}
use Rattle.bpf_lines.specs.HexText.{digits_of}
use Rattle.bpf_lines.specs.Private.Digits.{IsReadTo, IsAhead}
use Rattle.bpf_lines.specs.declared.hex_text.Ahead.TheVariants as ahead
use Rattle.bpf_lines.proofs.HexReading.{byte_read, half_byte, no_byte, all_read}
use Rattle.bpf_lines.proofs.hex_text.from_hex.Goals as goal

pub returns-in_default-look_ahead : goal.returns-in_default-look_ahead
returns-in_default-look_ahead c = record {
  spelled = tt;
  not_hex = λ e found spelled.
      let P : List ℕ → Type 0 = λ text. IsAhead text c.bytes.at (ahead.Digit c.in-Digit.high c.in-Digit.next) in
      let Q : List ℕ → Type 0 = λ text. IsAhead text c.in-Digit.next c.look_ahead-in-Digit.result in
      half_byte _ _ _ _ _ _ found c.bytes.invariant.read (subst P c.as_bytes-text.ensures.value c.in-Digit.ensures)
      (subst Q c.as_bytes-text.ensures.value c.look_ahead-in-Digit.ensures) c.in_default-look_ahead.not-Digit spelled;
  errors = inl refl;
}

pub bytes-preserved : goal.bytes-preserved
bytes-preserved c =
    let P : List ℕ → Type 0 = λ text. IsAhead text c.bytes.at (ahead.Digit c.in-Digit.high c.in-Digit.next) in
    let Q : List ℕ → Type 0 = λ text. IsAhead text c.in-Digit.next (ahead.Digit c.in-Digit-look_ahead.low c.in-Digit-look_ahead.next) in
    let second = subst Q c.as_bytes-text.ensures.value c.in-Digit-look_ahead.ensures in
    record {
      inside = second.4;
      read = rw c.in-Ok.ensures.items (byte_read _ _ _ _ _ _ _ c.bytes.invariant.read (subst P c.as_bytes-text.ensures.value c.in-Digit.ensures) second);
    }

pub returns-in-End : goal.returns-in-End
returns-in-End c =
    let P : List ℕ → Type 0 = λ text. digits_of (drop c.bytes.at text) ≡ [] in
    let none = subst P c.as_bytes-text.ensures.value c.in-End.ensures in
    record {
      spelled = all_read _ _ (subst (λ (ds : List ℕ). IsReadTo c.args.text.now c.bytes.bytes.items ds) none c.bytes.invariant.read);
      not_hex = λ e found spelled. absurd cc;
      errors = tt;
    }

pub returns-in_default-look_ahead-2 : goal.returns-in_default-look_ahead-2
returns-in_default-look_ahead-2 c = record {
  spelled = tt;
  not_hex = λ e found spelled.
      let P : List ℕ → Type 0 = λ text. IsAhead text c.bytes.at c.look_ahead.result in
      let Q : List ℕ → Type 0 = λ text. IsAhead text c.bytes.at c.look_ahead-2.result in
      no_byte _ _ _ _ _ found c.bytes.invariant.read (subst P c.as_bytes-text.ensures.value c.look_ahead.ensures)
      (subst Q c.as_bytes-text.ensures.value c.look_ahead-2.ensures) c.in_default.not-Digit c.in_default-look_ahead-2.not-End spelled;
  errors = inl refl;
}
