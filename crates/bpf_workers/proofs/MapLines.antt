-- The lines of maps' numbers, one by one.
use Rattle.std.proofs.Common.{◌≡◌, ℕ, suc, ◌+◌, ◌<◌, ◌≤◌, List, [], ◌++◌, Some, None, length, map, get_or, sym, ap, subst, ◌∙◌}
use Rattle.std.proofs.Common.{append_assoc, arith, string_bytes, String, Global}
use Rattle.std.specs.Prelude.{slice_index_or}
use Rattle.std.proofs.lemmas.List.{append-nil, get_or-map}
use Rattle.hop_words.specs.Closing.{Ending}
use Rattle.hop_map.specs.declared.stats.MapStats.{MapStats}
use Rattle.hop_map.specs.Stats.{IsCounted}
use Rattle.bpf_workers.specs.Stats.{AreStatsLines, stats_line}

-- the line of one map's numbers more
pub one_row_more : (e : Ending) (names : List (String Global)) (m : ℕ) (name : String Global) (s : MapStats) (text new : List ℕ)
    → m < length names → name ≡ get_or names m name → AreStatsLines e (map string_bytes names) m text → IsCounted e m s
    → new ≡ text ++ stats_line (string_bytes name) s → AreStatsLines e (map string_bytes names) (m + 1) new
one_row_more e names m name s text new inside is before counted more =
    let named : slice_index_or (map string_bytes names) m [] ≡ string_bytes name = get_or-map string_bytes names m name [] inside ∙ ap string_bytes (sym is) in
    let next : suc m ≡ m + 1 = omega arith in
    subst (λ (n : ℕ). AreStatsLines e (map string_bytes names) n new) next
    (text, Some s, before, counted, more ∙ ap (λ (x : List ℕ). text ++ stats_line x s) (sym named))

-- of no map there is none
pub no_row_more : (e : Ending) (names : List (String Global)) (m : ℕ) (text : List ℕ) → length e.about.shape.maps ≤ m
    → AreStatsLines e (map string_bytes names) m text → AreStatsLines e (map string_bytes names) (m + 1) text
no_row_more e names m text outside before =
    let next : suc m ≡ m + 1 = omega arith in
    subst (λ (n : ℕ). AreStatsLines e (map string_bytes names) n text) next (text, None, before, outside, sym (append-nil text))

-- one piece after others
pub behind : (start a b p q : List ℕ) → a ≡ start ++ p → b ≡ a ++ q → b ≡ start ++ (p ++ q)
behind start a b p q first then = then ∙ (ap (λ (x : List ℕ). x ++ q) first ∙ append_assoc start p q)
