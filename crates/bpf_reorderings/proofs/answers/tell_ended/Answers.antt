use Rattle.std.proofs.Common.{◌≡◌, ◌∙◌, ◌<◌, Bool, true, false, ℕ, List, Some, length, string_bytes, refl, sym, ap, subst}
use Rattle.std.specs.Prelude.{IfNone, IfSome, slice_get}
use Rattle.bpf_names.specs.Names.{names_of}
use Rattle.bpf_machine.specs.Schedule.{World}
use Rattle.bpf_buffering.specs.Album.{HaveEndedAt}
use Rattle.bpf_buffering.specs.Search.{BufferedState, ShowsX86}
use Rattle.bpf_explore.specs.Outcomes.{Found}
use Rattle.bpf_explore.specs.Private.Answers.{AreSorted, IsPlaceOf}
use Rattle.bpf_explore.proofs.AnswerLaws.{none_lost}
use Rattle.bpf_reorderings.specs.declared.answers.Told.{Told}
use Rattle.bpf_reorderings.specs.Private.Answers.{CanRunOut, Ends, IsPrinted, LeadsInBudget}
use Rattle.bpf_reorderings.specs.Private.Searching.{BeginsAt}
use Rattle.bpf_reorderings.proofs.Printing.{answered_by, ends_by, less_gathered, more_gathered, stopped_same}
use Rattle.bpf_reorderings.proofs.answers.tell_ended.Goals as goal

pub place_of-requires : goal.place_of-requires
place_of-requires c = subst AreSorted (sym c.deref.ensures.value) c.requires.gathered.sorted

pub returns-in-Ok-clause-gathered : goal.returns-in-Ok-clause-gathered
returns-in-Ok-clause-gathered c =
    let names = names_of c.args.names.now in
    let maps = c.args.maps in
    let e = c.args.explorer.now in
    let kept = e.kept in
    let old = c.args.told.now in
    let far = c.requires.gathered in
    let m = c.restore.new.self.machine in
    let text = string_bytes c.in_ok-text.field-0.text in
    let stopped = c.in_ok-text.field-0.stopped in
    let at = c.in_ok-restore.ensures.ok in
    let printed : IsPrinted m names maps text stopped = λ x shows. c.in_ok-text.ensures x
    (subst (λ (n : BufferedState). ShowsX86 n x) (sym c.machine.ensures) shows) in
    let answers = old.answers.items in
    let found = c.in-Ok.ensures.found in
    let there : slice_get answers c.in-Ok.field-0 ≡ Some found.0 = ap (λ (xs : List Found). slice_get xs c.in-Ok.field-0)
    (sym c.deref.ensures.value) ∙ found.1 in
    let same : found.0.text ≡ text = found.2 ∙ c.as_str.ensures.value in
    let stop = stopped_same kept m names maps c.args.place text stopped at c.requires.ended printed e.patient answers c.in-Ok.field-0 found.0
    c.leads.ensures c.requires.place c.requires.begins far.ends there same in
    more_gathered e.patient kept names maps c.args.place old old far refl far.sorted (none_lost answers) far.ends
    (answered_by kept m names maps c.args.place text stopped at c.requires.ended printed answers c.in-Ok.field-0 found.0 there same stop)

pub way_in_budget-requires : goal.way_in_budget-requires
way_in_budget-requires c =
    let same = sym c.restore.ensures.same in
    record {
      place = subst (λ (kept : List BufferedState). c.args.place < length kept) same c.requires.place;
      begins = subst (λ (kept : List BufferedState). (w : World) × BeginsAt kept w) same c.requires.begins;
      ended = subst (λ (kept : List BufferedState). HaveEndedAt kept c.args.place) same c.requires.ended;
    }

pub put_answer-requires : goal.put_answer-requires
put_answer-requires c =
    let answers = c.args.told.now.answers.items in
    record {
      sorted = c.requires.gathered.sorted;
      place = subst (λ (t : List ℕ). IsPlaceOf answers t c.in-Err.at) (sym (ap (λ (f : Found). f.text) c.new.ensures))
          (subst (λ (t : List ℕ). IsPlaceOf answers t c.in-Err.at) c.as_str.ensures.value
          (subst (λ (xs : List Found). IsPlaceOf xs c.as_str.result.now c.in-Err.at) c.deref.ensures.value c.in-Err.ensures.between));
    }

pub returns-in_default-clause-gathered : goal.returns-in_default-clause-gathered
returns-in_default-clause-gathered c =
    let names = names_of c.args.names.now in
    let e = c.args.explorer.now in
    let old = c.args.told.now in
    let new : Told = record { answers = old.answers; whole = false } in
    let out = subst (λ o. IfNone o ((c.restore.new.self.patient ≡ true) × CanRunOut c.restore.new.self.kept)) c.in_default.is
    c.in_ok-by-in-Err.ensures.out in
    less_gathered e.patient e.kept names c.args.maps c.args.place old new c.requires.gathered refl refl
    (sym c.restore.ensures.patient ∙ out.0) (subst CanRunOut c.restore.ensures.same out.1)

pub returns-in_ok-put_answer-in-Err-clause-gathered : goal.returns-in_ok-put_answer-in-Err-clause-gathered
returns-in_ok-put_answer-in-Err-clause-gathered c =
    let names = names_of c.args.names.now in
    let maps = c.args.maps in
    let e = c.args.explorer.now in
    let kept = e.kept in
    let old = c.args.told.now in
    let far = c.requires.gathered in
    let m = c.restore.new.self.machine in
    let text = string_bytes c.in_ok-text.field-0.text in
    let stopped = c.in_ok-text.field-0.stopped in
    let at = c.in_ok-restore.ensures.ok in
    let printed : IsPrinted m names maps text stopped = λ x shows. c.in_ok-text.ensures x
    (subst (λ (n : BufferedState). ShowsX86 n x) (sym c.machine.ensures) shows) in
    let new : Told = record { answers = c.put_answer.new.answers; whole = old.whole } in
    let by = c.in-Some.by.items in
    let leads = subst (λ (b : Bool). LeadsInBudget b kept by c.args.place) c.restore.ensures.patient
    (subst (λ (ms : List BufferedState). LeadsInBudget c.restore.new.self.patient ms by c.args.place) c.restore.ensures.same
    (subst (λ o. IfSome o (λ v. LeadsInBudget c.restore.new.self.patient c.restore.new.self.kept v.items c.args.place)) c.in-Some.is
    c.in_ok-by-in-Err.ensures.leads)) in
    let found : Found = record { text = text; stopped = stopped; by = by } in
    let is : c.new.result ≡ found = c.new.ensures in
    let put = c.in_ok-put_answer-in-Err.ensures in
    more_gathered e.patient kept names maps c.args.place old new far refl put.sorted put.keeps
    (λ w begins. put.ends e.patient w names maps (subst (Ends e.patient w names maps) (sym is)
    (ends_by kept m names maps c.args.place text stopped at c.requires.ended printed c.nothing_waits_at_last.ensures e.patient by leads w begins))
    (far.ends w begins))
    (answered_by kept m names maps c.args.place text stopped at c.requires.ended printed new.answers.items c.in-Err.at found
    (subst (λ (f : Found). slice_get new.answers.items c.in-Err.at ≡ Some f) is put.put) refl refl)
