use Rattle.std.proofs.Common.{List, ℕ, map, ap, subst, ◌∙◌, String, Global}
use Rattle.std.specs.Prelude.{string_bytes}
use Rattle.bpf_debug.specs.Held.{IsValueName}
use Rattle.bpf_debug.specs.Show.{place_words}
use Rattle.bpf_debug.proofs.show.value_words.Goals as goal

pub returns : goal.returns
returns c s so stands =
    let name = string_bytes c.in_ok-name.name in
    let P : List (String Global) → Type 0 = λ ns. IsValueName (map string_bytes ns) s c.args.span.at name in (
      name,
      subst P c.deref.ensures.value (c.in_ok-name.ensures s so stands),
      c.in_ok-words.ensures ∙ ap (λ (n : List ℕ). place_words n c.behind.result) c.as_str.ensures.value ∙ ap (place_words name) c.behind.ensures,
    )
