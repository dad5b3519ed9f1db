-- Sixteen hex digits, as the formatter pads them.
use Rattle.std.proofs.Common.{◌≡◌, ℕ, ◌-◌, ◌^◌, false, List, [], ◌++◌, length, append-nil, ap, ◌∙◌, arith}
use Rattle.std.specs.Prelude.{replicate}
use Rattle.std.specs.Fmt.{padded_integral, format_spec, char_count}

pub padded_zeros : (ds : List ℕ) → padded_integral (format_spec 32 0 4 16 (2 ^ 64 - 1)) false [] ds ≡ replicate (16 - length ds) 48 ++ ds
unfolding padded_integral char_count
padded_zeros ds =
    let width : 16 - length ds - 0 - char_count [] ≡ 16 - length ds = omega arith in
    ap (λ t. replicate (16 - length ds - 0 - char_count []) 48 ++ t) (append-nil ds) ∙ ap (λ k. replicate k 48 ++ ds) width
