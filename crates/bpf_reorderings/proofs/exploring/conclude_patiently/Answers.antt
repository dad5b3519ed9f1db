use Rattle.std.proofs.Common.{◌∙◌, Bool, List, length, sym, ap, refl, subst}
use Rattle.bpf_names.specs.Names.{names_of}
use Rattle.bpf_machine.specs.Schedule.{World}
use Rattle.bpf_buffering.specs.Search.{BufferedState}
use Rattle.bpf_reorderings.specs.declared.answers.Told.{Told}
use Rattle.bpf_reorderings.specs.Private.Answers.{CanRunOut, Gathered}
use Rattle.bpf_reorderings.specs.Private.Hung.{AllHang, AllLeadOrBeyond}
use Rattle.bpf_reorderings.specs.Private.Searching.{AreLed, BeginsAt}
use Rattle.bpf_reorderings.proofs.Reaching.{explored_patiently}
use Rattle.bpf_reorderings.proofs.exploring.conclude_patiently.Goals as goal

pub find_hung-requires-clause-patient : goal.find_hung-requires-clause-patient
find_hung-requires-clause-patient c = c.gather.ensures.patient ∙ c.requires.patient

pub find_hung-requires-clause-begins : goal.find_hung-requires-clause-begins
find_hung-requires-clause-begins c = subst (λ (ms : List BufferedState). (w : World) × BeginsAt ms w) (sym c.gather.ensures.same) c.requires.begins

pub returns : goal.returns
returns c w limit begins came =
    let names = names_of c.args.names.now in
    let kept = c.args.explorer.now.kept in
    let told : Told = c.in_ok-answers.field-0 in
    let gathered = c.gather.ensures.same in
    let same = c.in_ok-hung.ensures.same ∙ gathered in
    let is_patient = c.requires.patient in
    explored_patiently c.patient_sets_cover_x86.ensures c.patient_sets_lead_on.ensures c.x86s_can_end.ensures kept w names c.args.maps limit
    (record {
      answers = told.answers;
      all = c.both.result;
      refused = c.is_refused.result;
      states = c.len-states.result;
      hung = c.in_ok-hung.hung;
      budgets = c.budgets_by.result;
    })
    c.args.extent told c.is_whole-whole.result c.in_ok-hung.fit c.both-all_fit.result begins came
    (record {
      is_whole = c.is_whole-whole.ensures;
      refused = c.is_refused.ensures;
      count = c.len-states.ensures ∙ ap (λ (ms : List BufferedState). length ms) same;
      answers = refl;
      budgets = c.budgets_by.ensures;
      fits = c.both-all_fit.ensures.both;
      unfit = c.both-all_fit.ensures.not;
      every = c.both.ensures.both;
      part = c.both.ensures.not;
      gathered = subst (λ (b : Bool). Gathered b kept names c.args.maps (length kept) told) is_patient c.in_ok-answers.ensures.gathered;
      hung = subst (λ (ms : List BufferedState). AllHang ms c.in_ok-hung.hung.items) gathered c.in_ok-hung.ensures.hung;
      ends = λ is fits. subst (λ (ms : List BufferedState). AllLeadOrBeyond ms c.in_ok-hung.hung.items) gathered (c.in_ok-hung.ensures.ends is fits);
      out = λ is. subst CanRunOut gathered (c.in_ok-hung.ensures.out is);
      led = subst (λ (b : Bool). AreLed b kept) is_patient c.leads.ensures;
    })
