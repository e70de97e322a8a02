use Rattle.std.proofs.Common.{◌≡◌, ◌∙◌, Some, [], ap, get_or, sym, subst, arith}
use Rattle.std.specs.Option.{option_map}
use Rattle.lp_definitions.specs.declared.cert.Cert.{Cert}
use Rattle.lp_cert.specs.Beside.{BeginWith}
use Rattle.lp_cert.specs.Waiters.{kept_cert}
use Rattle.lp_cert.specs.inside.Kept.{certs_borrowed}
use Rattle.lp_cert.proofs.Bare.{none_has_lines}
use Rattle.lp_cert.proofs.Beside.{beside}
use Rattle.lp_cert.proofs.KeptCerts.{is_at, known_at}
use Rattle.lp_cert.proofs.cert_list.CertListRef.lines_beside.Goals as goal

pub returns-in-Bare-clause-lines : goal.returns-in-Bare-clause-lines
returns-in-Bare-clause-lines c = λ cert beside found there.
    let none = none_has_lines c.args.self.now c.in-Bare.field-0 c.in-Bare.field-1.now c.args.place (sym c.self.view_is ∙ ap certs_borrowed c.in-Bare.is) c.requires.place in
    let lines : Some cert.lines ≡ Some c.none.result = sym (ap (option_map (λ (k : Cert). k.lines)) found) ∙ none ∙ ap Some (sym c.none.ensures) in
    record { within = omega arith; whole = cc }

pub returns-in-Many-clause-lines : goal.returns-in-Many-clause-lines
returns-in-Many-clause-lines c = λ cert other found there.
    let i = c.many.inside in
    let certs = c.many.view_is ∙ (ap certs_borrowed (sym c.in-Many.is) ∙ c.self.view_is) in
    let lists = i.chains.lists in
    let scans = i.scans.items in
    let one = c.index.result.now in
    let two = c.index-in-Many.result.now in
    let of_one = kept_cert i.head.claim i.head.leg i.head.upto lists scans one in
    let head = known_at i.head.claim i.head.leg i.head.upto i.chains.lists i.scans.items i.waiters.items c.args.self.now certs c.many.invariant c.args.other two c.requires.other c.index-in-Many.ensures in
    let after = rw c.as_slice.ensures.value at c.lines_after-after.ensures in
    let it = beside lists scans two.group two.head head (get_or lists c.shared-shared.result.0 []) of_one.lines c.lines_after-after.result c.lines.result c.shared-shared.ensures.second c.shared-shared.ensures.told c.lines.ensures.all after in
    subst (λ (k : Cert). BeginWith k.lines other.lines c.lines.result c.lines_after-after.result) (is_at i.head.claim i.head.leg i.head.upto i.chains.lists i.scans.items i.waiters.items c.args.self.now certs c.many.invariant c.args.place one c.requires.place c.index.ensures cert found)
    (subst (λ (k : Cert). BeginWith of_one.lines k.lines c.lines.result c.lines_after-after.result) (is_at i.head.claim i.head.leg i.head.upto i.chains.lists i.scans.items i.waiters.items c.args.self.now certs c.many.invariant c.args.other two c.requires.other c.index-in-Many.ensures other there) it)
