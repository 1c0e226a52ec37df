use Rattle.ssh_entries.proofs.Imports.{◌≡◌}
use Rattle.std.specs.Prelude.{bytes_eq}
use Rattle.ssh_entries.proofs.NamesFieldLemmas.{same-names}
use Rattle.ssh_entries.proofs.names.HostNamesPartialEq.eq.Goals as goal

pub returns-clause-same : goal.returns-clause-same
returns-clause-same c =
    let reported = same-names c.args.self.now c.args.other.now c.text.result.now c.text-2.result.now c.text.ensures.spelled c.text-2.ensures.spelled in
    let is : c.eq.result ≡ bytes_eq c.text.result.now c.text-2.result.now = cc in
    rw is reported
