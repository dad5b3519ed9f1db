-- Lines of lists of keys.
use Rattle.std.proofs.Common.{◌≡◌, ℕ, suc, ◌+◌, ◌<◌, List, [], ◌++◌, length, map, get_or, Some, sym, ap, subst, ◌∙◌, append_assoc, arith}
use Rattle.std.specs.Prelude.{slice_get, slice_index_or}
use Rattle.std.proofs.lemmas.List.{get_or-map}
use Rattle.std.proofs.lemmas.Option.{get_or_from_slice_get}
use Rattle.bpf_shared.specs.KeyOrder.{Listed}
use Rattle.bpf_machine.specs.Listings.{Listing, listing_at, made_keys}
use Rattle.bpf_machine.specs.Machine.{MachineState, Shows}
use Rattle.bpf_machine.specs.Schedule.{World}
use Rattle.bpf_jobs.specs.Printed.{key_word, key_words, list_line, cpu_lines, list_lines, lines_of_lists}

-- one key more
pub one_word_more : (keys : List (List ℕ)) (n : ℕ) (key old text new : List ℕ) → slice_get keys n ≡ Some key → text ≡ old ++ key_words n
    keys → new ≡ text ++ key_word key
    → new ≡ old ++ key_words (n + 1) keys
one_word_more keys n key old text new at so_far more =
    let read : slice_index_or keys n [] ≡ key = get_or_from_slice_get keys n key [] at in
    let next : suc n ≡ n + 1 = omega arith in
    subst (λ (k : ℕ). new ≡ old ++ key_words k keys) next
    (more ∙ (ap (λ (t : List ℕ). t ++ key_word key) so_far ∙ (append_assoc old (key_words n keys) (key_word key)
    ∙ ap (λ (x : List ℕ). old ++ (key_words n keys ++ key_word x)) (sym read))))

-- one map more
pub one_list_more : (cpu : ℕ) (names : List (List ℕ)) (lists : List Listed) (m : ℕ) (d : Listed) (name old text new : List ℕ) → m < length
    lists → d ≡ get_or lists m d → name ≡ slice_index_or names m []
    → text ≡ old ++ cpu_lines cpu names m (map (λ list. list.keys) lists) → new ≡ text ++ list_line cpu name d.keys
    → new ≡ old ++ cpu_lines cpu names (m + 1) (map (λ list. list.keys) lists)
one_list_more cpu names lists m d name old text new inside is named so_far more =
    let all = map (λ list. list.keys) lists in
    let read : slice_index_or all m [] ≡ d.keys = get_or-map (λ (list : Listed). list.keys) lists m d [] inside ∙ ap (λ (list : Listed). list.keys) (sym is) in
    let next : suc m ≡ m + 1 = omega arith in
    subst (λ (k : ℕ). new ≡ old ++ cpu_lines cpu names k all) next
    (more ∙ (ap (λ (t : List ℕ). t ++ list_line cpu name d.keys) so_far ∙ (append_assoc old (cpu_lines cpu names m all) (list_line cpu name d.keys)
    ∙ (ap (λ (x : List ℕ). old ++ (cpu_lines cpu names m all ++ list_line cpu x d.keys)) named
    ∙ ap (λ (ks : List (List ℕ)). old ++ (cpu_lines cpu names m all ++ list_line cpu (slice_index_or names m []) ks)) (sym read)))))

-- one CPU more
pub one_cpu_more : (lists : ℕ → List (List (List ℕ))) (names : List (List ℕ)) (c n : ℕ) (found : List (List (List ℕ))) (text new : List ℕ) →
    found ≡ lists c → n ≡ length found
    → text ≡ list_lines lists names c → new ≡ text ++ cpu_lines c names n found → new ≡ list_lines lists names (c + 1)
one_cpu_more lists names c n found text new is many so_far more =
    let next : suc c ≡ c + 1 = omega arith in
    subst (λ (k : ℕ). new ≡ list_lines lists names k) next
    (more ∙ (ap (λ (t : List ℕ). t ++ cpu_lines c names n found) so_far ∙ (ap (λ (k : ℕ). list_lines lists names c ++ cpu_lines c names k found) many
    ∙ ap (λ (x : List (List (List ℕ))). list_lines lists names c ++ cpu_lines c names (length x) x) is)))

-- what a machine says of its lists is what the world that it shows has
pub shown_lines : (m : MachineState) (w : World) (names : List (List ℕ)) (n : ℕ) → Shows m w → w.store.shape.cpus ≡ n → list_lines
    (λ c. made_keys (listing_at m.lists c)) names n ≡ lines_of_lists w names
shown_lines m w names n shows cpus =
    ap (list_lines (λ c. made_keys (listing_at m.lists c)) names) (sym cpus)
    ∙ ap (λ (f : ℕ → Listing). list_lines (λ c. made_keys (f c)) names w.store.shape.cpus) (sym shows.lists)
