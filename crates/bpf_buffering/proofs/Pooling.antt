-- Pools that grow: what numbers are of stays.
use Rattle.std.proofs.Common.{◌≡◌, ℕ, zero, suc, ◌+◌, ◌<◌, ◌≤◌, ◌⊎◌, List, [], ◌∷◌, ◌++◌, inl, inr, length, take, get_or, Some, refl, sym}
use Rattle.std.proofs.Common.{ap, subst, ◌∙◌, append-nil, append_assoc, arith}
use Rattle.std.specs.Prelude.{All, map, option_map, slice_get, slice_index_or}
use Rattle.std.proofs.lemmas.List.{get_or_default, map_push, map_more, take_all}
use Rattle.std.proofs.lemmas.List.Elements.{All-push, All-nil}
use Rattle.std.proofs.lemmas.Option.{slice_get_within, slice_get-map, get_or_from_slice_get}
use Rattle.bpf_base.proofs.Lists.{slice_get-front}
use Rattle.bpf_plain.specs.PlainStore.{Contents}
use Rattle.bpf_loader.specs.Loaded.{Loaded}
use Rattle.bpf_cpu.specs.Task.{Task}
use Rattle.bpf_machine.specs.Parts.{IsSameHost, chosen, no_task}
use Rattle.bpf_machine.proofs.PartLaws.{chosen_is}
use Rattle.bpf_buffering.specs.declared.jobs.Listed.{Listed}
use Rattle.bpf_buffering.specs.declared.waiting.Stored.{Stored}
use Rattle.bpf_buffering.specs.declared.pools.Pools.{Pools}
use Rattle.bpf_buffering.specs.Search.{BufferedState}
use Rattle.bpf_buffering.specs.Jobs.{task_of, tasks_of}
use Rattle.bpf_buffering.specs.Private.Kept.{Numbers, AddsTo, AreNumbersOf, AreWithin, IsBoard, IsPooled, FitsHost, kept_state, state_with}
use Rattle.bpf_buffering.specs.Private.Kept.{no_store, store_of, jobs_of, buffers_of}
use Rattle.bpf_buffering.proofs.Keeping.{same_host}

-- ---- lists that grow
module _ {A : Type 0} where
  pub front : (xs ys : List A) (n : ℕ) (d : A) → n < length xs → slice_index_or (xs ++ ys) n d ≡ slice_index_or xs n d
  front [] ys n d less = absurd (omega arith)
  front (x ∷ xs) ys zero d less = refl
  front (x ∷ xs) ys (suc n) d less = front xs ys n d (omega arith)

  pub longer : (xs ys : List A) (n : ℕ) → n < length xs → n < length (xs ++ ys)
  longer [] ys n less = absurd (omega arith)
  longer (x ∷ xs) ys zero less = omega arith
  longer (x ∷ xs) ys (suc n) less = let rest : n < length (xs ++ ys) = longer xs ys n (omega arith) in omega (arith, rest)

  pub newest : (xs : List A) (x : A) → slice_get (xs ++ x ∷ []) (length xs) ≡ Some x
  newest [] x = refl
  newest (y ∷ ys) x = newest ys x

-- ---- lists by what is seen of their entries
module _ {A B : Type 0} (f : A → B) where
  pub seen_at : (xs : List A) (n : ℕ) (x : A) (y : B) → slice_get xs n ≡ Some x → f x ≡ y → slice_get (map f xs) n ≡ Some y
  seen_at xs n x y at is = slice_get-map f xs n ∙ ap (option_map f) at ∙ ap (λ (b : B). Some b) is

  pub seen_push : (old new : List A) (x : A) (y : B) → new ≡ old ++ x ∷ [] → f x ≡ y → map f new ≡ map f old ++ y ∷ []
  seen_push old new x y items is = ap (map f) items ∙ map_push f old x ∙ ap (λ (b : B). map f old ++ b ∷ []) is

  pub seen_last : (old new : List A) (n : ℕ) (x : A) (y : B) → new ≡ old ++ x ∷ [] → n ≡ length old → f x ≡ y → slice_get (map f new) n ≡ Some y
  seen_last old new n x y items count is =
      ap (λ (k : ℕ). slice_get (map f new) k) count ∙ seen_at new (length old) x y
      (ap (λ (l : List A). slice_get l (length old)) items ∙ newest old x) is

-- ---- jobs
pub within_more : (ts more : List Task) (ns : List ℕ) → All (λ n. n < length ts) ns → All (λ n. n < length (ts ++ more)) ns
within_more ts more ns all i d less = longer ts more (get_or ns i d) (all i d less)

pub chosen_more : (ts more : List Task) (ns : List ℕ) → All (λ n. n < length ts) ns → chosen (ts ++ more) ns ≡ chosen ts ns
chosen_more ts more [] all = refl
chosen_more ts more (n ∷ ns) all =
    let first : n < length ts = all zero 0 (omega arith) in
    let rest : All (λ (k : ℕ). k < length ts) ns = λ i d less. all (suc i) d (omega arith) in
    ap (λ (t : Task). t ∷ chosen (ts ++ more) ns) (front ts more n no_task first) ∙ ap
    (λ (l : List Task). slice_index_or ts n no_task ∷ l) (chosen_more ts more ns rest)

-- one more has its number
pub next_number : (ts more : List Task) (ns : List ℕ) (jobs : List Task) (n : ℕ) (t : Task) → AreNumbersOf ts ns jobs → slice_get (ts ++ more) n ≡ Some t
    → AreNumbersOf (ts ++ more) (ns ++ n ∷ []) (jobs ++ t ∷ [])
next_number ts more ns jobs n t are at = record {
  within = All-push (λ k. k < length (ts ++ more)) ns n (within_more ts more ns are.within) (slice_get_within (ts ++ more) n t at);
  are =
      map_push (λ k. slice_index_or (ts ++ more) k no_task) ns n
      ∙ ap (λ (l : List Task). l ++ slice_index_or (ts ++ more) n no_task ∷ []) (chosen_more ts more ns are.within ∙ are.are)
      ∙ ap (λ (x : Task). jobs ++ x ∷ []) (get_or_from_slice_get (ts ++ more) n t no_task at);
}

-- the job of a number, read where it is kept
pub read_job : (kept : List Task) (n : ℕ) (x : Task) → n < length kept → x ≡ get_or kept n x → slice_index_or kept n no_task ≡ x
read_job kept n x less at = get_or_default kept n no_task x less ∙ sym at

pub read_chosen : (kept : List Task) (numbers : List ℕ) (k : ℕ) (x : Task) → k < length numbers → All (λ n. n < length kept) numbers
    → x ≡ get_or kept (get_or numbers k 0) x → slice_get (chosen kept numbers) k ≡ Some x
read_chosen kept numbers k x inside all at =
    let n = get_or numbers k 0 in
    chosen_is kept numbers k inside ∙ ap (λ (t : Task). Some t) (read_job kept n x (all k 0 inside) at)

-- ---- states
module _ (store : Contents) (p q : Pools) (adds : AddsTo store p q) where
  store_within : (n : ℕ) → n < length p.stores → n < length q.stores
  store_within n less = elim adds.stores [
    | inl same ↦ subst (λ (ss : List Contents). n < length ss) (sym same) less
    | inr more ↦ subst (λ (ss : List Contents). n < length ss) (sym more) (longer p.stores (store ∷ []) n less)
  ]

  store_stays : (n : ℕ) → n < length p.stores → slice_index_or q.stores n no_store ≡ slice_index_or p.stores n no_store
  store_stays n less = elim adds.stores [
    | inl same ↦ ap (λ (ss : List Contents). slice_index_or ss n no_store) same
    | inr more ↦ ap (λ (ss : List Contents). slice_index_or ss n no_store) more ∙ front p.stores (store ∷ []) n no_store less
  ]

  pub store_known : (n : ℕ) (s : Contents) → slice_get p.stores n ≡ Some s → slice_get q.stores n ≡ Some s
  store_known n s at = elim adds.stores [
    | inl same ↦ ap (λ (ss : List Contents). slice_get ss n) same ∙ at
    | inr more ↦
        ap (λ (ss : List Contents). slice_get ss n) more ∙ slice_get-front p.stores (store ∷ []) n (slice_get_within p.stores n s at) ∙ at
  ]

  module _ (k : Numbers) (is : AreWithin p k) where
    jobs_stay : jobs_of q k ≡ jobs_of p k
    jobs_stay =
        ap (λ (ts : List Task). chosen ts k.jobs) adds.jobs.1 ∙ chosen_more p.jobs adds.jobs.0 k.jobs is.jobs

    buffers_stay : buffers_of q k ≡ buffers_of p k
    buffers_stay =
        ap (λ (bs : List (List (List Stored))). slice_index_or bs k.buffers []) adds.buffers.1
        ∙ front p.buffers adds.buffers.0 k.buffers [] is.buffers

    pub within_stays : AreWithin q k
    within_stays = record {
      store = store_within k.store is.store;
      buffers = subst (λ (bs : List (List (List Stored))). k.buffers < length bs) (sym adds.buffers.1)
          (longer p.buffers adds.buffers.0 k.buffers is.buffers);
      jobs = subst (λ (ts : List Task). All (λ (n : ℕ). n < length ts) k.jobs) (sym adds.jobs.1) (within_more p.jobs adds.jobs.0 k.jobs is.jobs);
    }

    -- what a kept state shows doesn't change
    pub state_stays : (programs : List Loaded) → kept_state q programs k ≡ kept_state p programs k
    state_stays programs =
        ap (λ (s : Contents). state_with s programs (jobs_of q k) (buffers_of q k)) (store_stays k.store is.store)
        ∙ ap (λ (ts : List Task). state_with (store_of p k) programs ts (buffers_of q k)) jobs_stay
        ∙ ap (λ (bs : List (List Stored)). state_with (store_of p k) programs (jobs_of p k) bs) buffers_stay

    board_stays : (programs : List Loaded) → IsBoard (store_of p k) programs (jobs_of p k) (buffers_of p k) → IsBoard (store_of q k) programs
        (jobs_of q k) (buffers_of q k)
    board_stays programs board =
        subst (λ (s : Contents). IsBoard s programs (jobs_of q k) (buffers_of q k)) (sym (store_stays k.store is.store))
        (subst (λ (ts : List Task). IsBoard (store_of p k) programs ts (buffers_of q k)) (sym jobs_stay)
        (subst (λ (bs : List (List Stored)). IsBoard (store_of p k) programs (jobs_of p k) bs) (sym buffers_stay) board))

  pub fits_still : (m : BufferedState) (k : Numbers) → FitsHost m p k → FitsHost m q k
  fits_still m k fits = record {
    within = within_stays k fits.within;
    host = subst (λ (s : BufferedState). IsSameHost m.machine s.machine) (sym (state_stays k fits.within m.machine.programs)) fits.host;
    board = board_stays k fits.within m.machine.programs fits.board;
  }

-- ---- the numbers of several jobs, of which the first i are kept
abbrev pub KeptSoFar : List Task → List Listed → ℕ → List Task → List ℕ → Type 0
KeptSoFar first jobs i tasks numbers =
    AreNumbersOf tasks numbers (tasks_of (take i jobs)) × ((more : List Task) × (tasks ≡ first ++ more))

pub kept_none : (first : List Task) (jobs : List Listed) → KeptSoFar first jobs 0 first []
kept_none first jobs = (record { within = All-nil (λ n. n < length first); are = refl }, ([], sym (append-nil first)))

-- what grew, grew again
pub grown_more : {A : Type 0} (first old new : List A) → ((more : List A) × (old ≡ first ++ more)) → ((more : List A) × (new ≡ old ++ more)) →
    (more : List A) × (new ≡ first ++ more)
grown_more {A} first old new (some, grown) (more, grows) =
    (some ++ more, grows ∙ ap (λ (l : List A). l ++ more) grown ∙ append_assoc first some more)

pub next_kept : (first : List Task) (jobs : List Listed) (i : ℕ) (old new : List Task) (numbers longer : List ℕ) (n : ℕ) (job : Listed) →
    KeptSoFar first jobs i old numbers → i < length jobs → job ≡ get_or jobs i job → ((more : List Task) × (new ≡ old ++ more))
    → slice_get new n ≡ Some (task_of job) → longer ≡ numbers ++ n ∷ [] → KeptSoFar first jobs (i + 1) new longer
next_kept first jobs i old new numbers longer n job (are, grown) inside at (more, grows) there items =
    let before = tasks_of (take i jobs) in
    let next : AreNumbersOf (old ++ more) (numbers ++ n ∷ []) (before ++ task_of job ∷ []) = next_number old more numbers before n
    (task_of job) are (ap (λ (l : List Task). slice_get l n) (sym grows) ∙ there) in
    let tasks : before ++ task_of job ∷ [] ≡ tasks_of (take (i + 1) jobs) =
    ap (λ (x : Listed). before ++ task_of x ∷ []) at ∙ sym (map_more task_of jobs i job inside) in
    let put : AreNumbersOf (old ++ more) longer (before ++ task_of job ∷ []) = subst
    (λ (ns : List ℕ). AreNumbersOf (old ++ more) ns (before ++ task_of job ∷ [])) (sym items) next in (
      subst (λ (ts : List Task). AreNumbersOf ts longer (tasks_of (take (i + 1) jobs))) (sym grows)
          (subst (AreNumbersOf (old ++ more) longer) tasks put),
      grown_more first old new grown (more, grows),
    )

pub all_kept : (first : List Task) (jobs : List Listed) (i : ℕ) (tasks : List Task) (numbers : List ℕ) → length jobs ≤ i → KeptSoFar first
    jobs i tasks numbers → AreNumbersOf tasks numbers (tasks_of jobs)
all_kept first jobs i tasks numbers past (are, grown) = subst (λ (js : List Listed). AreNumbersOf tasks numbers (tasks_of js)) (take_all i jobs past) are

-- ---- copies of the jobs of numbers, of which the first i are made
pub next_copied : (kept : List Task) (copies longer : List Listed) (numbers : List ℕ) (i n : ℕ) (part : Task) (copy : Listed) → i < length numbers
    → n ≡ get_or numbers i n → n < length kept → part ≡ get_or kept n part → task_of copy ≡ part → longer ≡ copies ++ copy ∷ []
    → tasks_of copies ≡ chosen kept (take i numbers) → tasks_of longer ≡ chosen kept (take (i + 1) numbers)
next_copied kept copies longer numbers i n part copy inside number less at same items before =
    let of : ℕ → Task = λ k. slice_index_or kept k no_task in
    ap tasks_of items ∙ map_push task_of copies copy ∙ ap (λ (l : List Task). l ++ task_of copy ∷ []) before ∙ ap
    (λ (t : Task). chosen kept (take i numbers) ++ t ∷ []) (same ∙ sym (read_job kept n part less at) ∙ ap of number) ∙ sym
    (map_more of numbers i n inside)

-- ---- what is added
nothing_more : {A : Type 0} (xs : List A) → (more : List A) × (xs ≡ xs ++ more)
nothing_more xs = ([], sym (append-nil xs))

pub adds_nothing : (store : Contents) (p : Pools) → AddsTo store p p
adds_nothing store p = record { stores = inl refl; jobs = nothing_more p.jobs; buffers = nothing_more p.buffers }

pub adds_store : (store : Contents) (p : Pools) (stores : List Contents) → (stores ≡ p.stores) ⊎ (stores ≡ p.stores ++ store ∷ []) → AddsTo
    store p (record { stores = stores; jobs = p.jobs; buffers = p.buffers })
adds_store store p stores adds = record { stores = adds; jobs = nothing_more p.jobs; buffers = nothing_more p.buffers }

pub adds_jobs : (store : Contents) (p q : Pools) (jobs : List Task) → AddsTo store p q → ((more : List Task) × (jobs ≡ q.jobs ++ more)) →
    AddsTo store p (record { stores = q.stores; jobs = jobs; buffers = q.buffers })
adds_jobs store p q jobs adds grows = record { stores = adds.stores; jobs = grown_more p.jobs q.jobs jobs adds.jobs grows; buffers = adds.buffers }

pub adds_buffers : (store : Contents) (p q : Pools) (buffers : List (List (List Stored))) → AddsTo store p q →
    ((more : List (List (List Stored))) × (buffers ≡ q.buffers ++ more)) → AddsTo store p
    (record { stores = q.stores; jobs = q.jobs; buffers = buffers })
adds_buffers store p q buffers adds grows = record {
  stores = adds.stores;
  jobs = adds.jobs;
  buffers = grown_more p.buffers q.buffers
      buffers adds.buffers grows;
}

-- the machine's store, jobs and buffers have these numbers
pub pooled : (m : BufferedState) (p : Pools) (k : Numbers) (items : List (List Stored)) → slice_get p.stores k.store ≡ Some m.machine.store →
    AreNumbersOf p.jobs k.jobs m.machine.jobs → slice_get p.buffers k.buffers ≡ Some items → m ≡ state_with m.machine.store
    m.machine.programs m.machine.jobs items → IsBoard m.machine.store m.machine.programs m.machine.jobs items → IsPooled p m k
pooled m p k items stored jobs waits state board =
    let programs = m.machine.programs in
    let store : store_of p k ≡ m.machine.store = get_or_from_slice_get p.stores k.store m.machine.store no_store stored in
    let buffers : buffers_of p k ≡ items = get_or_from_slice_get p.buffers k.buffers items [] waits in
    let is : kept_state p programs k ≡ m =
    ap (λ (s : Contents). state_with s programs (jobs_of p k) (buffers_of p k)) store
    ∙ ap (λ (ts : List Task). state_with m.machine.store programs ts (buffers_of p k)) jobs.are
    ∙ ap (λ (bs : List (List Stored)). state_with m.machine.store programs m.machine.jobs bs) buffers
    ∙ sym state in
    record {
      fits = record {
        within = record {
          store = slice_get_within p.stores k.store m.machine.store stored;
          buffers = slice_get_within p.buffers k.buffers items waits;
          jobs = jobs.within;
        };
        host = subst (λ (s : BufferedState). IsSameHost m.machine s.machine) (sym is) (same_host m.machine);
        board = subst (λ (s : Contents). IsBoard s programs (jobs_of p k) (buffers_of p k)) (sym store)
            (subst (λ (ts : List Task). IsBoard m.machine.store programs ts (buffers_of p k)) (sym jobs.are)
            (subst (λ (bs : List (List Stored)). IsBoard m.machine.store programs m.machine.jobs bs) (sym buffers) board));
      };
      is = is;
    }
