use Rattle.ssh_findings.proofs.Imports.{◌∙◌, get_or, numbers_of}
use Rattle.ssh_findings.proofs.SeekLemmas.{number_at, numbers_apart}
use Rattle.ssh_findings.proofs.map.ByteMap.is_place.Goals as goal

pub returns-else-number-wanted : goal.returns-else-number-wanted
returns-else-number-wanted g c = λ d.
    let m = c.args.self.now in
    numbers_apart c.number.result c.args.wanted (get_or m.places.items c.args.place d).text.items c.args.text.now
    (c.number.ensures ∙ number_at (numbers_of m.table) m.places.items c.args.place d m.numbered c.requires.within) c.requires.number c.if-number-wanted.false
