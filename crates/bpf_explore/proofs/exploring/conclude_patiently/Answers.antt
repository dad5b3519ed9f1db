use Rattle.std.proofs.Common.{◌≡◌, ◌∙◌, ℕ, List, true, length, sym, ap, subst}
use Rattle.bpf_names.specs.Names.{names_of}
use Rattle.bpf_machine.specs.Budgets.{MayRunOut}
use Rattle.bpf_machine.specs.Machine.{MachineState}
use Rattle.bpf_equal.specs.declared.peers.Peer.{Peer}
use Rattle.bpf_equal.specs.Patient.{AreAllExchanged}
use Rattle.bpf_explore.specs.Album.{BeginsAt, HaveWholeBudgets}
use Rattle.bpf_explore.specs.Patient.{IsSearchedPatiently}
use Rattle.bpf_explore.specs.Search.{CameTo, Richly, is_whole}
use Rattle.bpf_explore.specs.Private.Answers.{IsFirst, StartsFresh}
use Rattle.bpf_explore.specs.Private.Edges.{AreTurns}
use Rattle.bpf_explore.specs.Private.Hung.{AllLeadOrBeyond, StaysFirst}
use Rattle.bpf_explore.specs.Private.Replays.{CanRunOut, NoneRunsOut}
use Rattle.bpf_explore.proofs.ExploreLaws.{starts_fresh, whole_of}
use Rattle.bpf_explore.proofs.PatienceLaws.{all_whole, cut_it, met_it, no_other_hangs, none_hangs_there, settled_out, settled_suffice, settled_unfit, tells_all}
use Rattle.bpf_explore.proofs.TrailLaws.{are_reached_freely}
use Rattle.bpf_explore.proofs.exploring.conclude_patiently.Goals as goal

pub judge-requires-clause-fresh : goal.judge-requires-clause-fresh
judge-requires-clause-fresh c = subst StartsFresh (sym c.take_turns.ensures.same) c.requires.fresh

pub judge-requires-clause-turns : goal.judge-requires-clause-turns
judge-requires-clause-turns c is =
    subst (λ (ms : List MachineState). AreTurns ms c.in_ok-turns.turns) (sym c.take_turns.ensures.same)
    (c.in_ok-turns.ensures.turns (c.requires.made (whole_of c.args.reach.0 (sym c.is_whole.ensures ∙ is))))

pub judge-requires-clause-stays : goal.judge-requires-clause-stays
judge-requires-clause-stays c =
    subst (λ (ms : List MachineState). StaysFirst c.in_ok-turns.turns.peers.items ms) (sym c.take_turns.ensures.same)
    (subst (λ (ps : List Peer). StaysFirst ps c.args.explorer.kept) (sym c.in_ok-turns.ensures.peers) c.stays.ensures)

pub close_patiently-spread-requires : goal.close_patiently-spread-requires
close_patiently-spread-requires c = subst StartsFresh (sym (c.judge.ensures.same ∙ c.take_turns.ensures.same)) c.requires.fresh

pub find_patiently-requires : goal.find_patiently-requires
find_patiently-requires c =
    let fresh = c.requires.fresh in
    let same = sym (c.judge.ensures.same ∙ c.take_turns.ensures.same) in
    let begins : BeginsAt c.args.explorer.kept fresh.0 = (fresh.1, fresh.2) in
    starts_fresh c.close_patiently-spread.result.0.kept fresh.0
    (c.close_patiently-spread.ensures.begins fresh.0 (subst (λ (ms : List MachineState). BeginsAt ms fresh.0) same begins))

pub returns : goal.returns
returns c w begins came =
    let names = names_of c.args.names.now in
    let maps = c.args.maps in
    let kept = c.args.explorer.kept in
    let peers = c.args.explorer.peers in
    let extent = c.args.reach.0 in
    let limit = c.args.reach.1 in
    let mid = c.judge.new.explorer in
    let same : mid.kept ≡ kept = c.judge.ensures.same ∙ c.take_turns.ensures.same in
    let kind : mid.peers ≡ peers = c.judge.ensures.peers ∙ c.take_turns.ensures.kind in
    let new = c.close_patiently-spread.result.0.kept in
    let closed = c.close_patiently-spread.result.1 in
    let begins_mid = subst (λ (ms : List MachineState). BeginsAt ms w) (sym same) begins in
    let begins_new = c.close_patiently-spread.ensures.begins w begins_mid in
    let came_mid = subst (λ (ps : List Peer). CameTo (Richly ps) mid.kept extent limit) (sym kind)
    (subst (λ (ms : List MachineState). CameTo (Richly peers) ms extent limit) (sym same) came) in
    let came_new = c.close_patiently-spread.ensures.ends came_mid in
    let answers = c.in_ok-answers.answers.items in
    let told = c.in_ok-answers.told in
    let hung = c.in_ok-hung.hung.items in
    let fit = c.in_ok-hung.fit in
    let judged = c.in_ok-hung.judged in
    let budgets = c.settle_budgets-budgets.result in
    let fits = c.both-fits.result in
    let all = c.both-all.result in
    let refused = c.is_refused.result in
    let every = c.both-all.ensures.both in
    let two = c.both-fits.ensures.both in
    let whole = all_whole c.patient_tell_all.ensures new w names maps answers closed limit begins_new came_new told all fits refused
    c.is_whole-2.result c.is_whole-2.ensures c.is_refused.ensures every c.both-all.ensures.not in
    let turns_peers : c.in_ok-turns.turns.peers.items ≡ peers = c.in_ok-turns.ensures.peers in
    let stays = c.stays.ensures in
    let lead : all ≡ true → AllLeadOrBeyond peers kept hung = λ is. (
    let before = c.close_patiently-spread.ensures.whole (whole is) in
    subst (λ (ps : List Peer). AllLeadOrBeyond ps kept hung) turns_peers
    (subst (λ (ms : List MachineState). AllLeadOrBeyond c.in_ok-turns.turns.peers.items ms hung) c.take_turns.ensures.same
    (c.in_ok-hung.ensures.ends (c.is_whole.ensures ∙ ap is_whole before) (two (every is).1).1))) in
    let count : c.len-states.result ≡ length new = c.len-states.ensures ∙ ap (λ (ms : List MachineState). length ms) c.find_patiently.ensures.same in
    let no_other = no_other_hangs c.permuted_can_end.ensures c.covered_lie_beyond.ensures c.beyond_is_exchanged.ensures peers kept w extent limit begins
    came hung in
    subst (λ (n : ℕ). IsSearchedPatiently w names maps answers all refused limit n hung budgets) (sym count) (record {
      outcomes = c.in_ok-answers.ensures.outcomes w begins_new.1;
      complete = tells_all c.patient_tell_all.ensures new w names maps answers closed limit begins_new came_new told all fits refused
          c.is_whole-2.result c.is_whole-2.ensures c.is_refused.ensures every c.both-all.ensures.not (λ is. (two is).0)
          c.in_ok-answers.ensures.answered;
      counted = are_reached_freely new w begins_new.1 c.leads.ensures
          ((c.close_patiently-spread.ensures.budgets (subst HaveWholeBudgets (sym same) c.refilled.ensures)) w begins_new.0 begins_new.1)
          c.apart.ensures;
      met = met_it c.patient_tell_all.ensures new w names maps answers closed limit begins_new came_new told all fits refused
          c.is_whole-2.result c.is_whole-2.ensures c.is_refused.ensures every c.both-all.ensures.not budgets
          (settled_unfit told fit fits judged budgets c.both-fits.ensures.not c.settle_budgets-budgets.ensures.told c.settle_budgets-budgets.ensures.out
          c.in_ok-hung.ensures.unfit);
      short = cut_it c.patient_tell_all.ensures new w names maps answers closed limit begins_new came_new told all fits refused
          c.is_whole-2.result c.is_whole-2.ensures c.is_refused.ensures every c.both-all.ensures.not;
      are_hung = λ i by at. c.in_ok-hung.ensures.hung i by at w begins.0
          (subst (λ (ms : List MachineState). IsFirst ms w) (sym c.take_turns.ensures.same) begins.1);
      no_other = λ is. no_other (c.close_patiently-spread.ensures.whole (whole is)) (lead is)
          (subst (λ (ps : List Peer). AreAllExchanged ps hung) turns_peers c.in_ok-hung.ensures.exchanged) stays;
      none_hangs = λ is none. none_hangs_there w hung (no_other (c.close_patiently-spread.ensures.whole (whole is)) (lead is)
          (subst (λ (ps : List Peer). AreAllExchanged ps hung) turns_peers c.in_ok-hung.ensures.exchanged) stays) none;
      suffice = λ is may. subst NoneRunsOut c.take_turns.ensures.same (c.in_ok-hung.ensures.suffice
          (settled_suffice told judged budgets c.settle_budgets-budgets.ensures.told c.settle_budgets-budgets.ensures.out is)) w begins.0 begins.1 may;
      run_out = λ is. settled_out (MayRunOut w) told judged budgets c.settle_budgets-budgets.ensures.told is
          (λ over. subst CanRunOut c.take_turns.ensures.same (c.in_ok-hung.ensures.out over) w begins.1)
          (λ untold. c.in_ok-answers.ensures.out untold w begins_new.1);
    })
