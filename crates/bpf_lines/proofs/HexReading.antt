-- Reading hex text byte by byte.
use Rattle.std.proofs.Common.{◌≡◌, ℕ, ◌+◌, ◌*◌, ◌≤◌, List, [], ◌∷◌, ◌++◌, length, drop, Some, None, Result, Ok, Err, refl, sym, ap, subst}
use Rattle.std.proofs.Common.{◌∙◌, append_assoc, arith}
use Rattle.std.proofs.lemmas.List.{append-nil, drop_all}
use Rattle.hex.specs.Hex.{decode_pairs, hex_digit_value, pair_value}
use Rattle.hex.specs.declared.error.FromHexError.{FromHexError}
use Rattle.hex.specs.declared.error.FromHexError.TheVariants.{OddLength, InvalidHexCharacter}
use Rattle.hex.proofs.HexLemmas.{decode_of-even, decode_of-ok}
use Rattle.hex.proofs.Pairs.{cons_byte, decode_pairs-ok_pair}
use Rattle.bpf_lines.specs.HexText.{digits_of, IsHexOf}
use Rattle.bpf_lines.specs.Private.Digits.{behind, IsReadTo, IsAhead}
use Rattle.bpf_lines.specs.declared.hex_text.Ahead.{Ahead}
use Rattle.bpf_lines.specs.declared.hex_text.Ahead.TheVariants as ahead

behind_nothing : (r : Result (List ℕ) FromHexError) → r ≡ behind [] r
behind_nothing (Ok bytes) = refl
behind_nothing (Err e) = refl

pub nothing_read : (text : List ℕ) → IsReadTo text [] (digits_of text)
nothing_read text = record { pairs = 0; at = 0; whole = omega arith; read = behind_nothing (decode_pairs 0 (digits_of text)) }

behind_more : (bytes : List ℕ) (byte : ℕ) (r : Result (List ℕ) FromHexError) → behind bytes (cons_byte byte r) ≡ behind (bytes ++ byte ∷ []) r
behind_more bytes byte (Ok rest) = ap Ok (sym (append_assoc bytes (byte ∷ []) rest))
behind_more bytes byte (Err e) = refl

pair_value_of : (a b high low i : ℕ) → hex_digit_value a ≡ Some high → hex_digit_value b ≡ Some low → pair_value a b i ≡ Ok (high * 16 + low)
pair_value_of a b high low i e f = rw (e, f) refl

-- two digits more
pub pair_read : (text bytes : List ℕ) (a high b low : ℕ) (ds : List ℕ) → hex_digit_value a ≡ Some high → hex_digit_value b ≡ Some low →
    IsReadTo text bytes (a ∷ b ∷ ds) → IsReadTo text (bytes ++ (high * 16 + low) ∷ []) ds
pair_read text bytes a high b low ds first second before =
    let pair = decode_pairs-ok_pair before.at a b (high * 16 + low) ds (pair_value_of a b high low before.at first second) in
    record {
      pairs = before.pairs + 1;
      at = before.at + 2;
      whole = omega (arith, before.whole);
      read = before.read ∙ ap (behind bytes) pair ∙ behind_more bytes (high * 16 + low) (decode_pairs (before.at + 2) ds);
    }

-- ---- at the end

pub all_read : (text bytes : List ℕ) → IsReadTo text bytes [] → IsHexOf text bytes
unfolding decode_pairs
all_read text bytes before =
    decode_of-even (digits_of text) (omega (arith, before.whole)) ∙ before.read ∙ ap Ok (append-nil bytes)

-- what is refused spells nothing
refused : (text found : List ℕ) (e : FromHexError) → decode_pairs 0 (digits_of text) ≡ Err e → IsHexOf text found → ⊥
refused text found e failed spelled =
    let even = (decode_of-ok (digits_of text) found spelled).0 in
    cc (sym failed ∙ sym (decode_of-even (digits_of text) even) ∙ spelled)

pub half_left : (text bytes : List ℕ) (a : ℕ) (found : List ℕ) → IsReadTo text bytes (a ∷ []) → IsHexOf text found → ⊥
unfolding decode_pairs
half_left text bytes a found before spelled = refused text found OddLength before.read spelled

first_bad : (i b : ℕ) (ds : List ℕ) → hex_digit_value b ≡ None → (e : FromHexError) × (decode_pairs i (b ∷ ds) ≡ Err e)
unfolding decode_pairs
first_bad i b [] none = (OddLength, refl)
first_bad i b (d ∷ ds) none = (InvalidHexCharacter b i, rw none refl)

second_bad : (i a b n : ℕ) (ds : List ℕ) → hex_digit_value a ≡ Some n → hex_digit_value b ≡ None → decode_pairs i (a ∷ b ∷ ds) ≡ Err
    (InvalidHexCharacter b (i + 1))
unfolding decode_pairs
second_bad i a b n ds some none = rw (some, none) refl

-- no digit is where the first of a byte should
pub no_first : (text bytes : List ℕ) (b : ℕ) (ds found : List ℕ) → hex_digit_value b ≡ None → IsReadTo text bytes (b ∷ ds) → IsHexOf text found → ⊥
no_first text bytes b ds found none before spelled =
    let bad = first_bad before.at b ds none in
    refused text found bad.0 (before.read ∙ ap (behind bytes) bad.1) spelled

-- or where the second should
pub no_second : (text bytes : List ℕ) (a n b : ℕ) (ds found : List ℕ) → hex_digit_value a ≡ Some n → hex_digit_value b ≡ None → IsReadTo
    text bytes (a ∷ b ∷ ds) → IsHexOf text found → ⊥
no_second text bytes a n b ds found some none before spelled =
    refused text found _ (before.read ∙ ap (behind bytes) (second_bad before.at a b n ds some none)) spelled

-- ---- what is ahead

pub none_there : (text : List ℕ) (at : ℕ) → length text ≤ at → digits_of (drop at text) ≡ []
none_there text at past = ap digits_of (drop_all at text past)

-- ---- the digits of one byte

pub byte_read : (text bytes : List ℕ) (at high next low to : ℕ) → IsReadTo text bytes (digits_of (drop at text)) → IsAhead text at
    (ahead.Digit high next) → IsAhead text next (ahead.Digit low to) → IsReadTo text (bytes ++ (high * 16 + low) ∷ []) (digits_of (drop to text))
byte_read text bytes at high next low to before first second =
    let both : digits_of (drop at text) ≡ first.0 ∷ second.0 ∷ digits_of (drop to text) = first.5 ∙ ap (λ (ds : List ℕ). first.0 ∷ ds) second.5 in
    pair_read text bytes first.0 high second.0 low (digits_of (drop to text)) first.1 second.1 (subst (λ (ds : List ℕ). IsReadTo text bytes ds) both before)

pub half_byte : (text bytes : List ℕ) (at high next : ℕ) (behind : Ahead) (found : List ℕ) → IsReadTo text bytes (digits_of (drop at text))
    → IsAhead text at (ahead.Digit high next) → IsAhead text next behind → ((low to : ℕ) → behind ≡ ahead.Digit low to → ⊥) → IsHexOf text found → ⊥
half_byte text bytes at high next (ahead.Digit low to) found before first second none spelled = none low to refl
half_byte text bytes at high next ahead.End found before first second none spelled =
    let both : digits_of (drop at text) ≡ first.0 ∷ [] = first.5 ∙ ap (λ (ds : List ℕ). first.0 ∷ ds) second in
    half_left text bytes first.0 found (subst (λ (ds : List ℕ). IsReadTo text bytes ds) both before) spelled
half_byte text bytes at high next ahead.Other found before first second none spelled =
    let both : digits_of (drop at text) ≡ first.0 ∷ second.0 ∷ second.1 = first.5 ∙ ap (λ (ds : List ℕ). first.0 ∷ ds) second.3 in
    no_second text bytes first.0 high second.0 second.1 found first.1 second.2 (subst (λ (ds : List ℕ). IsReadTo text bytes ds) both before) spelled

-- neither a digit is there nor, when asked again, the end
pub no_byte : (text bytes : List ℕ) (at : ℕ) (there again : Ahead) (found : List ℕ) → IsReadTo text bytes (digits_of (drop at text)) →
    IsAhead text at there → IsAhead text at again → ((n to : ℕ) → there ≡ ahead.Digit n to → ⊥) → (again ≡ ahead.End → ⊥) → IsHexOf text found → ⊥
no_byte text bytes at (ahead.Digit n to) again found before is then no_digit not_end spelled = no_digit n to refl
no_byte text bytes at ahead.Other again found before is then no_digit not_end spelled =
    no_first text bytes is.0 is.1 found is.2 (subst (λ (ds : List ℕ). IsReadTo text bytes ds) is.3 before) spelled
no_byte text bytes at ahead.End ahead.End found before is then no_digit not_end spelled = not_end refl
no_byte text bytes at ahead.End (ahead.Digit n to) found before is then no_digit not_end spelled = absurd (cc (is, then.5))
no_byte text bytes at ahead.End ahead.Other found before is then no_digit not_end spelled = absurd (cc (is, then.3))
