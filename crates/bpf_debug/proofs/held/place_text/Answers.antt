use Rattle.std.proofs.Common.{◌≡◌, ◌++◌, inl, inr, String, Global}
use Rattle.std.specs.Prelude.{codes, string_bytes}
use Rattle.std.specs.Fmt.{decimal}
use Rattle.std.proofs.lemmas.Result.{IfOk-weaker}
use Rattle.hex.specs.Hex.{encode_lower}
use Rattle.bpf_debug.specs.Private.Naming.{ShowsPlace}
use Rattle.bpf_debug.proofs.held.place_text.Goals as goal

pub returns-in-Some : goal.returns-in-Some
returns-in-Some c =
    let key = c.in-Some.key.now in
    IfOk-weaker c.encode.result (λ (t : String Global). string_bytes t ≡ encode_lower key)
    (λ (t : String Global). ShowsPlace c.args.store.now c.args.at (string_bytes t))
    (λ text e s so stands. inl (key, c.in-Some.ensures.found s so stands, e)) c.encode.ensures

pub returns-in-None : goal.returns-in-None
returns-in-None c =
    IfOk-weaker c.address_text.result (λ (t : String Global). string_bytes t ≡ codes "at " ++ decimal c.args.at)
    (λ (t : String Global). ShowsPlace c.args.store.now c.args.at (string_bytes t))
    (λ text e s so stands. inr (c.in-None.ensures.none s so stands, e)) c.address_text.ensures
