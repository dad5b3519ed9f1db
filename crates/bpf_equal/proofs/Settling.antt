-- Jobs are brought into an order in which they fit others.
use Rattle.std.proofs.Common.{◌≡◌, ◌≢◌, ◌∙◌, ℕ, zero, suc, ◌+◌, ◌<◌, true, List, [], ◌∷◌, Some, None, inl, inr, refl, sym, ap, subst}
use Rattle.std.proofs.Common.{length, get_or, length-set, arith}
use Rattle.std.specs.Prelude.{All, slice_get, slice_set}
use Rattle.std.specs.List.{SwappedAt}
use Rattle.std.proofs.lemmas.Option.{slice_get_cases, slice_get_within, slice_get-get_or, slice_get_past}
use Rattle.bpf_shared.proofs.Puts.{equal_or_not}
use Rattle.bpf_shared.specs.Shape.{Shape}
use Rattle.bpf_loader.specs.Loaded.{Loaded}
use Rattle.bpf_cpu.specs.Task.{Stage, Task, InHand}
use Rattle.bpf_live.specs.Alike.{AreAlike}
use Rattle.bpf_live.specs.Live.{Table}
use Rattle.bpf_machine.specs.Headways.{with_jobs}
use Rattle.bpf_machine.specs.Parts.{chosen, in_hand}
use Rattle.bpf_machine.specs.Schedule.{World}
use Rattle.bpf_alike.specs.Worlds.{AllAlike, AreLiveTables, IsAlike, table_at}
use Rattle.bpf_equal.specs.Groups.{IsJobOf, IsOfPeers, restaged}
use Rattle.bpf_equal.specs.Peers.{AreOneGroup, Peer}
use Rattle.bpf_equal.specs.Permutations.{exchanged}
use Rattle.bpf_equal.specs.Private.Twins.{AreSettled, FitsAt, IsAsFarAs, IsOrder, MayExchange, part_at}
use Rattle.bpf_equal.specs.Twins.{AreAlikeElsewhere, AreLoaded, IsLikeStage}
use Rattle.bpf_equal.specs.Worlds.{ArePartners, ArePermuted, IsBlind, IsPartner}
use Rattle.bpf_equal.proofs.Back.{none_moves, partner_itself}
use Rattle.bpf_equal.proofs.Exchanging.{first_goes, second_goes, others_stay, twice}
use Rattle.bpf_equal.proofs.Peering.{exchanged_next, marked_anew, one_more, restage, restaged_itself, stays_put}

-- ---- the jobs of numbers
pub chosen_at : (parts : List Task) (ns : List ℕ) (j n : ℕ) → slice_get ns j ≡ Some n → slice_get (chosen parts ns) j ≡ Some (part_at parts n)
chosen_at parts [] j n at = cc
chosen_at parts (m ∷ ms) zero n at = let same : m ≡ n = cc in ap (λ (k : ℕ). Some (part_at parts k)) same
chosen_at parts (m ∷ ms) (suc j) n at = chosen_at parts ms j n at

pub chosen_many : (parts : List Task) (ns : List ℕ) → length (chosen parts ns) ≡ length ns
chosen_many parts [] = refl
chosen_many parts (n ∷ ns) = ap suc (chosen_many parts ns)

chosen_past : (parts : List Task) (ns : List ℕ) (j : ℕ) → slice_get ns j ≡ None → slice_get (chosen parts ns) j ≡ None
chosen_past parts [] j none = refl
chosen_past parts (m ∷ ms) zero none = cc
chosen_past parts (m ∷ ms) (suc j) none = chosen_past parts ms j none

-- ---- two of them change places
pub swapped_many : (xs ys : List ℕ) (j k : ℕ) → SwappedAt xs ys j k → length ys ≡ length xs
swapped_many xs ys j k swapped =
    ap length (swapped.3 0) ∙ (length-set (slice_set xs j (get_or xs k 0)) k (get_or xs j 0) ∙ length-set xs j (get_or xs k 0))

module _ (xs ys : List ℕ) (j k : ℕ) (swapped : SwappedAt xs ys j k) (many : length ys ≡ length xs) (low : j < length xs) (high : k < length xs) where
  same_or : (i : ℕ) (d : ℕ) → get_or ys (exchanged j k i) d ≡ get_or xs i d
  same_or i d = elim (equal_or_not i j) [
    | inl e ↦ ap (λ (x : ℕ). get_or ys x d) (first_goes j k i e) ∙ (swapped.1 d ∙ ap (λ (x : ℕ). get_or xs x d) (sym e))
    | inr ne ↦ elim (equal_or_not i k) [
      | inl f ↦ ap (λ (x : ℕ). get_or ys x d) (second_goes j k i ne f) ∙ (swapped.0 d ∙ ap (λ (x : ℕ). get_or xs x d) (sym f))
      | inr apart ↦ ap (λ (x : ℕ). get_or ys x d) (others_stay j k i ne apart) ∙ swapped.2 i d ne apart
    ]
  ]

  inside_too : (i : ℕ) → i < length xs → exchanged j k i < length ys
  inside_too i inside = elim (equal_or_not i j) [
    | inl e ↦ subst (λ (x : ℕ). x < length ys) (sym (first_goes j k i e)) (omega (arith, many, high))
    | inr ne ↦ elim (equal_or_not i k) [
      | inl f ↦ subst (λ (x : ℕ). x < length ys) (sym (second_goes j k i ne f)) (omega (arith, many, low))
      | inr apart ↦ subst (λ (x : ℕ). x < length ys) (sym (others_stay j k i ne apart)) (omega (arith, many, inside))
    ]
  ]

  past_too : (i : ℕ) → length xs < i + 1 → exchanged j k i ≡ i
  past_too i past = others_stay j k i (λ e. omega (arith, past, low, e)) (λ e. omega (arith, past, high, e))

  pub swapped_get : (i : ℕ) → slice_get ys (exchanged j k i) ≡ slice_get xs i
  swapped_get i = elim (slice_get_cases xs i).1 [
    | inl x ↦
        let there = slice_get-get_or ys (exchanged j k i) x.0 (inside_too i x.1) in
        there ∙ (ap Some (same_or i x.0 ∙ x.3) ∙ sym x.2)
    | inr x ↦
        let past = x.0 in
        ap (slice_get ys) (past_too i (omega (arith, past))) ∙ (slice_get_past ys i (omega (arith, many, past)) ∙ sym x.1)
  ]

  pub came : j ≢ k → slice_get ys j ≡ slice_get xs k
  came differ = ap (slice_get ys) (sym (second_goes j k k (λ e. differ (sym e)) refl)) ∙ swapped_get k

  pub swapped_chosen : (parts : List Task) (i : ℕ) → slice_get (chosen parts ys) (exchanged j k i) ≡ slice_get (chosen parts xs) i
  swapped_chosen parts i = elim (slice_get_cases xs i).1 [
    | inl x ↦ chosen_at parts ys (exchanged j k i) x.0 (swapped_get i ∙ x.2) ∙ sym (chosen_at parts xs i x.0 x.2)
    | inr x ↦ chosen_past parts ys (exchanged j k i) (swapped_get i ∙ x.1) ∙ sym (chosen_past parts xs i x.1)
  ]

-- ---- all fit
-- one job, with the stage that is there or other marks, is alike the one that it fits
module _ (programs : List Loaded) (tables : List Table) (right : AreLiveTables programs (table_at tables)) where
  like_stage : (peer : Peer) (one other : Task) (program : Loaded) → slice_get programs one.program ≡ Some program → IsJobOf peer one → IsJobOf peer other
      → IsLikeStage (table_at tables peer.program) one.stage other.stage → IsAlike programs one other
  like_stage peer one other program loaded mine theirs like = elim like [
    | inl same ↦ inl (whole other.stage refl ∙ ap (λ (s : Stage). record one { stage = s }) same)
    | inr x ↦
        let alike : AreAlike program (table_at tables one.program) x.0 x.2 =
        subst (λ (n : ℕ). AreAlike program (table_at tables n) x.0 x.2) (sym mine.program) (x.5 program) in
        inr (
          program,
          x.0,
          x.1,
          x.2,
          loaded,
          x.3,
          whole (InHand x.2 x.1) x.4,
          (1, (table_at tables one.program, x.2, right one.program program loaded, alike, refl)),
        )
  ]
    where
      whole : (s : Stage) → other.stage ≡ s → other ≡ record one { stage = s }
      whole s at =
          ap (λ (n : ℕ). record { cpu = n; program = other.program; budget = other.budget; stage = other.stage }) (theirs.cpu ∙ sym mine.cpu)
          ∙ (ap (λ (n : ℕ). record { cpu = one.cpu; program = n; budget = other.budget; stage = other.stage }) (theirs.program ∙ sym mine.program)
          ∙ (ap (λ (n : ℕ). record { cpu = one.cpu; program = one.program; budget = n; stage = other.stage }) (theirs.budget ∙ sym mine.budget)
          ∙ ap (λ (t : Stage). record one { stage = t }) at))

-- what a job is, when all have come to their places
module _ (h : Shape) (programs : List Loaded) where
  abbrev pub Ready : Task → Task → Task → Type 0
  Ready task moved other = (end : Task) × IsPartner h programs none_moves (restage task moved) end × IsAlike programs end other

  abbrev Ends : List Task → List Task → List Task → List Task → Type 0
  Ends tasks cur others ends = ((i : ℕ) → ArePartners h programs none_moves (slice_get (restaged tasks cur) i) (slice_get ends i))
      × AllAlike programs ends others

  consed : (t c o : Task) (ts cs os : List Task) → Ready t c o → ((ends : List Task) × Ends ts cs os ends)
      → (ends : List Task) × Ends (t ∷ ts) (c ∷ cs) (o ∷ os) ends
  consed t c o ts cs os here rest = (here.0 ∷ rest.0, (partners, (here.2, rest.1.1)))
    where
      partners : (i : ℕ) → ArePartners h programs none_moves (slice_get (restaged (t ∷ ts) (c ∷ cs)) i) (slice_get (here.0 ∷ rest.0) i)
      partners zero = here.1
      partners (suc i) = rest.1.0 i

  all_ready : (tasks cur others : List Task) → length cur ≡ length tasks → length others ≡ length tasks
      → ((i : ℕ) (task moved other : Task) → slice_get tasks i ≡ Some task → slice_get cur i ≡ Some moved → slice_get others i ≡ Some other
      → Ready task moved other) → (ends : List Task) × Ends tasks cur others ends
  all_ready [] [] [] many same ready = ([], ((λ i. tt), tt))
  all_ready [] [] (o ∷ os) many same ready = absurd (omega (arith, same))
  all_ready [] (c ∷ cs) others many same ready = absurd (omega (arith, many))
  all_ready (t ∷ ts) [] others many same ready = absurd (omega (arith, many))
  all_ready (t ∷ ts) (c ∷ cs) [] many same ready = absurd (omega (arith, same))
  all_ready (t ∷ ts) (c ∷ cs) (o ∷ os) many same ready =
      consed t c o ts cs os (ready 0 t c o refl refl refl)
      (all_ready ts cs os (omega (arith, many)) (omega (arith, same)) (λ i task moved other a b d. ready (suc i) task moved other a b d))

-- ---- the next order
module _ (peers : List Peer) (parts : List Task) (first old new : List ℕ) (j k : ℕ) (may : MayExchange peers parts old j k) (differ : j ≢ k) (low : j
    < length old) (high : k < length old) (swapped : SwappedAt old new j k) (many : length new ≡ length old) (order : IsOrder peers parts first old)
  where
    abbrev one : Peer
    one = may.0

    abbrev other : Peer
    other = may.1

    abbrev group : AreOneGroup peers j k one other
    group = may.2

    here : (i : ℕ) → i < length old → slice_get old i ≡ Some (get_or old i 0)
    here i inside = slice_get-get_or old i 0 inside

    module _ (w : World) (is : w.jobs ≡ chosen parts first) (of : IsOfPeers peers w) where
      running_at : (i n : ℕ) (peer : Peer) → slice_get peers i ≡ Some peer → slice_get old i ≡ Some n → w.store.running peer.cpu ≡
          in_hand (part_at parts n).stage
      running_at i n peer there at =
          let inside = slice_get_within peers i peer there in
          elim (slice_get_cases w.jobs i).1 [
            | inl x ↦
                let mine = of.jobs.each i peer x.0 there x.2 in
                ap w.store.running (sym mine.cpu) ∙ order.running w is of i n x.0 at x.2
            | inr x ↦ let count = of.jobs.many in absurd (omega (arith, inside, x.0, count))
          ]

      alike : w.store.running one.cpu ≡ w.store.running other.cpu
      alike =
          running_at j (get_or old j 0) one group.first (here j low)
          ∙ (may.3 (get_or old j 0) (get_or old k 0) (here j low) (here k high) ∙ sym (running_at k (get_or old k 0) other group.second (here k high)))

      jobs_many : length (chosen parts old) ≡ length w.jobs
      jobs_many = chosen_many parts old ∙ (order.many ∙ (sym (chosen_many parts first) ∙ sym (ap length is)))

      pub leads_on : ArePermuted peers w (with_jobs w (restaged w.jobs (chosen parts new)))
      leads_on =
          one_more peers w (with_jobs w (restaged w.jobs (chosen parts old))) (with_jobs w (restaged w.jobs (chosen parts new))) (order.leads w is of)
          (exchanged_next peers w of j k one other group differ alike (chosen parts old) (chosen parts new) jobs_many
          (swapped_chosen old new j k swapped many low high parts))

      pub runs_on : (i n : ℕ) (task : Task) → slice_get new i ≡ Some n → slice_get w.jobs i ≡ Some task → w.store.running task.cpu
          ≡ in_hand (part_at parts n).stage
      runs_on i n task at there =
          let was : slice_get old (exchanged j k i) ≡ Some n =
          sym (swapped_get old new j k swapped many low high (exchanged j k i)) ∙ (ap (slice_get new) (twice j k i) ∙ at) in
          elim (equal_or_not i j) [
            | inl e ↦
                let mine = of.jobs.each j one task group.first (subst (λ (x : ℕ). slice_get w.jobs x ≡ Some task) e there) in
                ap w.store.running mine.cpu ∙ (alike
                ∙ running_at k n other group.second (subst (λ (x : ℕ). slice_get old x ≡ Some n) (first_goes j k i e) was))
            | inr ne ↦ elim (equal_or_not i k) [
              | inl f ↦
                  let mine = of.jobs.each k other task group.second (subst (λ (x : ℕ). slice_get w.jobs x ≡ Some task) f there) in
                  ap w.store.running mine.cpu ∙ (sym alike
                  ∙ running_at j n one group.first (subst (λ (x : ℕ). slice_get old x ≡ Some n) (second_goes j k i ne f) was))
              | inr apart ↦ order.running w is of i n task (subst (λ (x : ℕ). slice_get old x ≡ Some n) (others_stay j k i ne apart) was) there
            ]
          ]

    within_too : All (λ n. n < length parts) new
    within_too i d inside =
        let same : get_or new i d ≡ get_or old (exchanged j k i) d =
        ap (λ (x : ℕ). get_or new x d) (sym (twice j k i)) ∙ same_or old new j k swapped many low high (exchanged j k i) d in
        let there = inside_too old new j k swapped many low high i (omega (arith, many, inside)) in
        subst (λ (n : ℕ). n < length parts) (sym same) (order.within (exchanged j k i) d (omega (arith, many, there)))

    pub next_order : IsOrder peers parts first new
    next_order = record { many = many ∙ order.many; within = within_too; leads = leads_on; running = runs_on }

-- ---- before any has moved
pub first_order : (peers : List Peer) (parts : List Task) (first : List ℕ) → All (λ n. n < length parts) first → IsOrder peers parts first first
first_order peers parts first within = record {
  many = refl;
  within = within;
  leads = λ w is of. (0, ap (with_jobs w) (ap (restaged w.jobs) (sym is) ∙ restaged_itself w.jobs));
  running = λ w is of j n task at there. (
      let same : slice_get w.jobs j ≡ Some (part_at parts n) = ap (λ (ts : List Task). slice_get ts j) is ∙ chosen_at parts first j n at in
      let e : task ≡ part_at parts n = cc in
      of.running j task there ∙ ap (λ (t : Task). in_hand t.stage) e);
}

-- ---- after all have
module _ (peers : List Peer) (tables : List Table) (parts : List Task) (first order others : List ℕ) (one : Peer) (some : slice_get peers 0 ≡ Some one) (many
    : length others ≡ length first) (is_order : IsOrder peers parts first order) (settled : AreSettled tables peers parts order others (length others))
  where
    module _ (w : World) (is : w.jobs ≡ chosen parts first) (of : IsOfPeers peers w) (right : AreLiveTables w.programs (table_at tables)) (loaded
        : AreLoaded w.programs (chosen parts first)) where
      count : length w.jobs ≡ length first
      count = ap length is ∙ chosen_many parts first

      ready : (i : ℕ) (task moved other : Task) → slice_get w.jobs i ≡ Some task → slice_get (chosen parts order) i ≡ Some moved
          → slice_get (chosen parts others) i ≡ Some other → Ready w.store.shape w.programs task moved other
      ready i task moved other at there last =
          let inside : i < length others = (let low = slice_get_within w.jobs i task at in let c = count in omega (arith, low, c, many)) in
          let m = get_or order i 0 in
          let o = get_or others i 0 in
          let at_m : slice_get order i ≡ Some m = slice_get-get_or order i 0 (let x = is_order.many in omega (arith, inside, x, many)) in
          let at_o : slice_get others i ≡ Some o = slice_get-get_or others i 0 inside in
          let of_m = chosen_at parts order i m at_m in
          let of_o = chosen_at parts others i o at_o in
          let same_m : moved ≡ part_at parts m = cc in
          let same_o : other ≡ part_at parts o = cc in
          let n = get_or peers i one in
          let peer_at : slice_get peers i ≡ Some n = slice_get-get_or peers i one
          (let x = of.jobs.many in let low = slice_get_within w.jobs i task at in omega (arith, x, low)) in
          let fits = settled i m o inside at_m at_o n peer_at in
          let mine = of.jobs.each i n task peer_at at in
          let program = loaded i task (ap (λ (ts : List Task). slice_get ts i) (sym is) ∙ at) in
          subst (λ (t : Task). Ready w.store.shape w.programs task t other) (sym same_m)
          (subst (Ready w.store.shape w.programs task (part_at parts m)) (sym same_o)
          (ready_one n task (part_at parts m) (part_at parts o) program.0 program.1 mine fits.0
          (λ blind. subst (IsBlind w.store.shape w.programs) (sym mine.program) (of.are.told i n peer_at blind)) fits.1))
        where
          ready_one : (peer : Peer) (task moved other : Task) (program : Loaded) → slice_get w.programs task.program ≡ Some program → IsJobOf peer task
              → IsJobOf peer other → (peer.blind ≡ true → IsBlind w.store.shape w.programs task.program)
              → IsAsFarAs tables peer moved.stage other.stage → Ready w.store.shape w.programs task moved other
          ready_one peer task moved other program loaded mine theirs blind (inl like) = (
            restage task moved,
            partner_itself w.store.shape w.programs (restage task moved),
            like_stage w.programs tables right peer (restage task moved) other program loaded
                (record { cpu = mine.cpu; program = mine.program; budget = mine.budget }) theirs like,
          )
          ready_one peer task moved other program loaded mine theirs blind (inr (is_blind, (mid, stage, like))) = (
            record task { stage = mid },
            record { cpu = refl; program = refl; budget = refl; stage = inr (blind is_blind, stage) },
            like_stage w.programs tables right peer (record task { stage = mid }) other program loaded
                (record { cpu = mine.cpu; program = mine.program; budget = mine.budget }) theirs like,
          )

      abbrev ended : (ends : List Task) × Ends w.store.shape w.programs w.jobs (chosen parts order) (chosen parts others) ends
      ended = all_ready w.store.shape w.programs w.jobs (chosen parts order) (chosen parts others) (chosen_many parts order ∙ (is_order.many ∙ sym count))
          (chosen_many parts others ∙ (many ∙ sym count)) ready

      pub elsewhere : (jobs : List Task) × ArePermuted peers w (with_jobs w jobs) × AllAlike w.programs jobs (chosen parts others)
      elsewhere = (
        ended.0,
        one_more peers w (with_jobs w (restaged w.jobs (chosen parts order))) (with_jobs w ended.0) (is_order.leads w is of)
            (none_moves, none_moves, stays_put peers 0 one some, inl (marked_anew w (restaged w.jobs (chosen parts order)) ended.0 ended.1.0)),
        ended.1.1,
      )

    pub alike_elsewhere : AreAlikeElsewhere peers tables (chosen parts first) (chosen parts others)
    alike_elsewhere w is of right loaded = elsewhere w is of right loaded

pub all_alike : (peers : List Peer) (tables : List Table) (parts : List Task) (first order others : List ℕ) → 0 < length peers → length others
    ≡ length first → IsOrder peers parts first order → AreSettled tables peers parts order others (length others)
    → AreAlikeElsewhere peers tables (chosen parts first) (chosen parts others)
all_alike peers tables parts first order others some many order_is settled = elim (slice_get_cases peers 0).1 [
  | inl x ↦ alike_elsewhere peers tables parts first order others x.0 x.2 many order_is settled
  | inr x ↦ absurd (omega (arith, x.0, some))
]

-- one more job has come to its place
pub next_settled : (tables : List Table) (peers : List Peer) (parts : List Task) (order new others : List ℕ) (n other : ℕ)
    → AreSettled tables peers parts order others n → ((j : ℕ) → j < n → slice_get new j ≡ slice_get order j) → slice_get others n ≡ Some other
    → ((m : ℕ) → slice_get new n ≡ Some m → FitsAt tables peers parts n m other) → AreSettled tables peers parts new others (n + 1)
next_settled tables peers parts order new others n other settled before here fits j m o less at there = elim (equal_or_not j n) [
  | inl e ↦
      let last : slice_get new n ≡ Some m = subst (λ (x : ℕ). slice_get new x ≡ Some m) e at in
      let its : slice_get others n ≡ Some o = subst (λ (x : ℕ). slice_get others x ≡ Some o) e there in
      let same : other ≡ o = cc in
      subst (λ (x : ℕ). FitsAt tables peers parts x m o) (sym e) (subst (FitsAt tables peers parts n m) same (fits m last))
  | inr ne ↦ let low : j < n = omega (arith, less, ne) in settled j m o low (sym (before j low) ∙ at) there
]
