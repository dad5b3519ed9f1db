use Rattle.std.proofs.Common.{◌∙◌, List, subst, sym}
use Rattle.bpf_explore.specs.Album.{HaveWholeBudgets}
use Rattle.bpf_explore.proofs.AlbumLaws.{adds_extends}
use Rattle.bpf_explore.proofs.TurnedLaws.{origin_kept}
use Rattle.bpf_explore.proofs.patient.keep_turn.Goals as goal

pub keep_numbered-kept-requires : goal.keep_numbered-kept-requires
keep_numbered-kept-requires c = (c.requires.turn.0, c.requires.turn.2)

pub returns-in_err-number-clause-origins : goal.returns-in_err-number-clause-origins
returns-in_err-number-clause-origins c =
    let a = c.args.album.now in
    let is = c.requires.turn in
    let new = c.keep_numbered-kept.new.self in
    let adds = c.keep_numbered-kept.ensures.adds is.0 is.2 in
    (origin_kept a.kept new.kept is.1.old is.1.mid is.0 c.args.origins.now.items c.push.new.self.items c.truncate.new.self.items
    c.in_ok-from.from c.args.turned.place c.args.ahead c.args.turned.cpu c.len.result is.1.at c.in_ok-from.ensures c.requires.place
    is.1.leads.runs is.1.leads.ahead is.1.refilled adds c.in_ok-push.ensures.items c.len.ensures c.truncate.ensures.items
    c.requires.origins c.requires.whole).0

pub returns-in_err-number-clause-whole : goal.returns-in_err-number-clause-whole
returns-in_err-number-clause-whole c =
    let a = c.args.album.now in
    let is = c.requires.turn in
    let new = c.keep_numbered-kept.new.self in
    let adds = c.keep_numbered-kept.ensures.adds is.0 is.2 in
    (origin_kept a.kept new.kept is.1.old is.1.mid is.0 c.args.origins.now.items c.push.new.self.items c.truncate.new.self.items
    c.in_ok-from.from c.args.turned.place c.args.ahead c.args.turned.cpu c.len.result is.1.at c.in_ok-from.ensures c.requires.place
    is.1.leads.runs is.1.leads.ahead is.1.refilled adds c.in_ok-push.ensures.items c.len.ensures c.truncate.ensures.items
    c.requires.origins c.requires.whole).1

pub returns-clause-origins : goal.returns-clause-origins
returns-clause-origins c =
    let a = c.args.album.now in
    let is = c.requires.turn in
    let new = c.keep_numbered-kept.new.self in
    let adds = c.keep_numbered-kept.ensures.adds is.0 is.2 in
    (origin_kept a.kept new.kept is.1.old is.1.mid is.0 c.args.origins.now.items c.push.new.self.items c.truncate.new.self.items
    c.in_ok-from.from c.args.turned.place c.args.ahead c.args.turned.cpu c.len.result is.1.at c.in_ok-from.ensures c.requires.place
    is.1.leads.runs is.1.leads.ahead is.1.refilled adds c.in_ok-push.ensures.items c.len.ensures c.truncate.ensures.items
    c.requires.origins c.requires.whole).0

pub returns-clause-whole : goal.returns-clause-whole
returns-clause-whole c =
    let a = c.args.album.now in
    let is = c.requires.turn in
    let new = c.keep_numbered-kept.new.self in
    let adds = c.keep_numbered-kept.ensures.adds is.0 is.2 in
    (origin_kept a.kept new.kept is.1.old is.1.mid is.0 c.args.origins.now.items c.push.new.self.items c.truncate.new.self.items
    c.in_ok-from.from c.args.turned.place c.args.ahead c.args.turned.cpu c.len.result is.1.at c.in_ok-from.ensures c.requires.place
    is.1.leads.runs is.1.leads.ahead is.1.refilled adds c.in_ok-push.ensures.items c.len.ensures c.truncate.ensures.items
    c.requires.origins c.requires.whole).1

pub returns-in_err-number-clause-extends : goal.returns-in_err-number-clause-extends
returns-in_err-number-clause-extends c =
    let is = c.requires.turn in
    adds_extends c.args.album.now.kept c.keep_numbered-kept.new.self.kept is.0 (c.keep_numbered-kept.ensures.adds is.0 is.2)

pub returns-clause-extends : goal.returns-clause-extends
returns-clause-extends c =
    let is = c.requires.turn in
    adds_extends c.args.album.now.kept c.keep_numbered-kept.new.self.kept is.0 (c.keep_numbered-kept.ensures.adds is.0 is.2)
