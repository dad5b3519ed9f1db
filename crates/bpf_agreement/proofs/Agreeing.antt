-- What explains how all jobs ended, where none lists keys, is what turns lead to.
use Rattle.std.proofs.Common.{◌≡◌, ℕ, suc, ◌+◌, ◌*◌, ◌^◌, ◌<◌, Bool, false, List, [], ◌∷◌, length, refl, sym, ap, subst, ◌∙◌, arith}
use Rattle.std.specs.Prelude.{slice_get}
use Rattle.bpf_shared.specs.declared.events.Entry.{Entry}
use Rattle.bpf_shared.specs.Shape.{Shape, IsShape}
use Rattle.bpf_shared.specs.Store.{Plain, as_made}
use Rattle.bpf_shared.specs.Sound.{IsSoundStore}
use Rattle.bpf_shared.specs.History.{Legal, events_of}
use Rattle.bpf_shared.specs.Laws.{LegalIsSound, CallsHaveOneReply}
use Rattle.bpf_loader.specs.Loaded.{Loaded}
use Rattle.bpf_loader.specs.Laws.{OneInstructionBegins}
use Rattle.bpf_mem.specs.Laws.{WritesAreDetermined}
use Rattle.bpf_cpu.specs.declared.cpu.Cpu.{Cpu}
use Rattle.bpf_cpu.specs.declared.outcome.Outcome.{Outcome}
use Rattle.bpf_cpu.specs.Task.{Task}
use Rattle.bpf_machine.specs.Schedule.{World}
use Rattle.bpf_machine.specs.Laws.{IsFresh}
use Rattle.bpf_machine.proofs.DeterminedTurns.{runs_world, fresh_world}
use Rattle.bpf_sched.specs.Explained.{IsExplained, ExplainsJobs, ends_of, jobs_of, keys_events}
use Rattle.bpf_agreement.specs.Ends.{LeadsToo}
use Rattle.bpf_agreement.proofs.Alike.{IsLike}
use Rattle.bpf_agreement.proofs.Standing.{Given, HasRunsFrom, Between, Beside}
use Rattle.bpf_agreement.proofs.Going.{AllWait}
use Rattle.bpf_agreement.proofs.Acting.{AreCalm, IsKeptUp}
use Rattle.bpf_agreement.proofs.Simulating.{AreGoodFirst, simulates, all_ended, all_idle}
use Rattle.bpf_agreement.proofs.Explaining.{has_runs}

pub none_listed : {A : Type 0} (xs : List A) → length xs ≡ 0 → xs ≡ []
none_listed [] e = refl
none_listed (x ∷ xs) e = absurd (let no : suc (length xs) ≡ 0 = e in omega arith)

few_turns : (n : ℕ) → n < 2 ^ 62 → 0 + 2 * n < 2 ^ 63
few_turns n few =
    let b : n < 4611686018427387904 = few in
    let r : 0 + 2 * n < 9223372036854775808 = omega arith in
    r

-- of a CPU that is in no run nothing is held or kept, so stores that are otherwise alike are one
same_store : (s t : Plain) → IsSoundStore s → IsSoundStore t → ((c : ℕ) → (s.running c ≡ false) × (t.running c ≡ false)) → IsLike s t → t ≡ s
same_store s t sound sound_too idle like =
    let running : t.running ≡ s.running = (λ i. λ c. ((idle c).1 ∙ sym (idle c).0) i) in
    let held : t.held ≡ s.held = (λ i. λ c v. ((sound_too.idle c (idle c).1 v).0 ∙ sym (sound.idle c (idle c).0 v).0) i) in
    let kept : t.kept ≡ s.kept = (λ i. λ c v. ((sound_too.idle c (idle c).1 v).1 ∙ sym (sound.idle c (idle c).0 v).1) i) in
    like
    ∙ ap (λ (f : ℕ → Bool). record s { running = f; held = t.held; kept = t.kept }) running
    ∙ ap (λ (f : ℕ → ℕ → Bool). record s { held = f; kept = t.kept }) held
    ∙ ap (λ (f : ℕ → ℕ → Bool). record s { kept = f }) kept

module _ (law : WritesAreDetermined) (one_begins : OneInstructionBegins) (replies : CallsHaveOneReply) (legal_sound : LegalIsSound)
    (h : Shape) (programs : List Loaded) (tasks : List Task) (ends : List Outcome) (lists : ℕ → List (List (List ℕ))) (history : List Entry) (last : Plain)
    (w : World) (first : w.store ≡ as_made h) (has : w.programs ≡ programs) (jobs : w.jobs ≡ tasks) (is_shape : IsShape h)
    (fresh : IsFresh w) (few : length tasks < 2 ^ 62)
    (explained : IsExplained h 0 [] programs tasks false ends lists history) (legal : Legal (as_made h) history last) where
  abbrev pub given : Given
  given = record { shape = h; programs = programs; tasks = tasks; ends = ends }

  pub waiting : AllWait given
  waiting k task at = let f = fresh.waits k task (ap (λ (ts : List Task). slice_get ts k) jobs ∙ at) in (f.0, f.1)

  pub runs_of : (c : ℕ) → c < h.cpus → HasRunsFrom given c 0 (events_of c history)
  runs_of c inside =
      let nothing : lists c ≡ [] = none_listed (lists c) (explained.each_listed c inside) in
      let mine = subst (λ (ls : List (List (List ℕ))). ExplainsJobs h 0 programs [] (jobs_of c tasks) (ends_of c tasks ends)
      (keys_events 0 ls) (events_of c history)) nothing (subst (λ (es : List Entry). ExplainsJobs h 0 programs [] (jobs_of c tasks)
      (ends_of c tasks ends) (keys_events 0 (lists c)) (events_of c es)) (sym explained.begins) (explained.explained c inside)) in
      record {
        tasks = tasks;
        ends = ends;
        jobs = λ i. ap (λ (k : ℕ). slice_get tasks k) (from_none i);
        outcomes = λ i. ap (λ (k : ℕ). slice_get ends k) (from_none i);
        runs = has_runs given c tasks ends [] (events_of c history) waiting explained.each_ended (few_turns (length tasks) few) mine;
      }
    where
      from_none : (i : ℕ) → i ≡ 0 + i
      from_none i = omega arith

  module _ (Good : Loaded → Cpu → Type 0) where
    begins : Beside given Good w history (as_made h) w
    begins = record {
      schedule = [];
      runs = refl;
      programs = has;
      shape = refl;
      like = subst (λ (s : Plain). IsLike (as_made h) s) (sym first) refl;
      size = ap (λ (ts : List Task). length ts) jobs;
      cpus = λ k task at. (task, ap (λ (ts : List Task). slice_get ts k) (sym jobs) ∙ at, refl);
      each = λ c inside. Between (record {
        job = 0;
        runs = refl;
        idle = record {
          runs = ap (λ (s : Plain). s.running c) first;
          ended = λ k task less at its. absurd (let no : k < 0 = less in omega arith);
          waits = λ k task from at its. ap (λ (ts : List Task). slice_get ts k) jobs ∙ at;
        };
        more = runs_of c inside;
      });
      beyond = λ c from. (refl, ap (λ (s : Plain). s.running c) first);
    }

    module _ (good_first : AreGoodFirst given Good) (up : IsKeptUp h Good) (calm : AreCalm h Good w) where
      pub leads_too : LeadsToo w tasks ends last
      leads_too =
          let r = simulates given Good w waiting good_first up calm history (as_made h) last w begins legal in
          let b = r.1 in
          let sound : IsSoundStore last = legal_sound h history last is_shape legal in
          let world = runs_world law one_begins replies b.schedule w r.0 (fresh_world law one_begins replies w fresh) b.runs in
          record {
            schedule = b.schedule;
            world = r.0;
            runs = b.runs;
            store = same_store last r.0.store sound world.store (all_idle given Good w waiting good_first up calm last r.0 b) b.like;
            size = b.size;
            each = all_ended given Good w waiting good_first up calm (λ k task at. explained.each_has_cpu task k at) last r.0 b;
          }
