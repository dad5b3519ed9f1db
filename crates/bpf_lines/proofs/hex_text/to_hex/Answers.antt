use Rattle.std.proofs.Common.{◌≡◌, List, ℕ, IfOk, sym, subst, string_bytes, arith, rules}
use Rattle.std.proofs.lemmas.Result.{IfOk-weaker}
use Rattle.hex.specs.Hex.{IsBytes, encode_lower}
use Rattle.bpf_lines.proofs.HexLemmas.{IsHexOf-encode_lower}
use Rattle.bpf_lines.specs.HexText.{IsHexOf}
use Rattle.bpf_lines.proofs.hex_text.to_hex.Goals as goal

pub returns-clause-reads_back : goal.returns-clause-reads_back
returns-clause-reads_back c =
    let bytes = c.args.bytes.now in
    let fits : IsBytes bytes = λ i. let f = c.type_inv.bytes i in omega arith in
    let digits : IfOk c.encode.result (λ text. string_bytes text ≡ encode_lower bytes) = search rules in
    let Reads : List ℕ → Type 0 = λ text. IsHexOf text bytes in
    IfOk-weaker c.encode.result (λ text. string_bytes text ≡ encode_lower bytes) (λ text. IsHexOf (string_bytes text) bytes)
    (λ text e. subst Reads (sym e) (IsHexOf-encode_lower bytes fits)) digits
