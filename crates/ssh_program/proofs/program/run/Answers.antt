use Rattle.std.specs.Prelude.{map}
use Rattle.ssh_program.proofs.FileRunLemmas.{file_hashed_run, file_readable_run, file_rewritten_run, files_reviewed_run}
use Rattle.ssh_program.proofs.FingerprintRunLemmas.{fingerprint_admitted_run, fingerprint_kept_out_run}
use Rattle.ssh_program.proofs.GrantedRunLemmas.{host_denied_run, host_granted_run, login_denied_run, login_granted_run}
use Rattle.ssh_program.proofs.KeyRunLemmas.{client_admitted_run, client_kept_out_run, host_distrusted_run, host_trusted_run}
use Rattle.ssh_program.proofs.KeyStandingLemmas.{key_nowhere_run, key_standing_run}
use Rattle.ssh_program.proofs.PageRunLemmas.{files_on_page_run}
use Rattle.ssh_program.proofs.SignatureRunLemmas.{signature_unvouched_run, signature_vouched_run}
use Rattle.ssh_program.proofs.program.run.Goals as goal

pub returns-clause-login : goal.returns-clause-login
returns-clause-login g c =
    login_granted_run (map g.S.AsStr.text c.args.words.now) (g.F.Files.source_state c.args.files.now) (g.F.Files.source_state c.answer.new.files)
    (g.W.Sink.account c.args.writer.now) (g.W.Sink.account c.answer.new.writer) c.answer.result c.answer.ensures

pub returns-clause-host : goal.returns-clause-host
returns-clause-host g c =
    host_granted_run (map g.S.AsStr.text c.args.words.now) (g.F.Files.source_state c.args.files.now) (g.F.Files.source_state c.answer.new.files)
    (g.W.Sink.account c.args.writer.now) (g.W.Sink.account c.answer.new.writer) c.answer.result c.answer.ensures

pub returns-clause-login_denied : goal.returns-clause-login_denied
returns-clause-login_denied g c =
    login_denied_run (map g.S.AsStr.text c.args.words.now) (g.F.Files.source_state c.args.files.now) (g.F.Files.source_state c.answer.new.files)
    (g.W.Sink.account c.args.writer.now) (g.W.Sink.account c.answer.new.writer) c.answer.result c.answer.ensures

pub returns-clause-host_denied : goal.returns-clause-host_denied
returns-clause-host_denied g c =
    host_denied_run (map g.S.AsStr.text c.args.words.now) (g.F.Files.source_state c.args.files.now) (g.F.Files.source_state c.answer.new.files)
    (g.W.Sink.account c.args.writer.now) (g.W.Sink.account c.answer.new.writer) c.answer.result c.answer.ensures

pub returns-clause-signature : goal.returns-clause-signature
returns-clause-signature g c =
    signature_vouched_run (map g.S.AsStr.text c.args.words.now) (g.F.Files.source_state c.args.files.now) (g.F.Files.source_state c.answer.new.files)
    (g.W.Sink.account c.args.writer.now) (g.W.Sink.account c.answer.new.writer) c.answer.result c.answer.ensures

pub returns-clause-signature_denied : goal.returns-clause-signature_denied
returns-clause-signature_denied g c =
    signature_unvouched_run (map g.S.AsStr.text c.args.words.now) (g.F.Files.source_state c.args.files.now) (g.F.Files.source_state c.answer.new.files)
    (g.W.Sink.account c.args.writer.now) (g.W.Sink.account c.answer.new.writer) c.answer.result c.answer.ensures

pub returns-clause-admits : goal.returns-clause-admits
returns-clause-admits g c =
    client_admitted_run (map g.S.AsStr.text c.args.words.now) (g.F.Files.source_state c.args.files.now) (g.F.Files.source_state c.answer.new.files)
    (g.W.Sink.account c.args.writer.now) (g.W.Sink.account c.answer.new.writer) c.answer.result c.answer.ensures

pub returns-clause-admits_none : goal.returns-clause-admits_none
returns-clause-admits_none g c =
    client_kept_out_run (map g.S.AsStr.text c.args.words.now) (g.F.Files.source_state c.args.files.now) (g.F.Files.source_state c.answer.new.files)
    (g.W.Sink.account c.args.writer.now) (g.W.Sink.account c.answer.new.writer) c.answer.result c.answer.ensures

pub returns-clause-admits_fingerprint : goal.returns-clause-admits_fingerprint
returns-clause-admits_fingerprint g c =
    fingerprint_admitted_run (map g.S.AsStr.text c.args.words.now) (g.F.Files.source_state c.args.files.now) (g.F.Files.source_state c.answer.new.files)
    (g.W.Sink.account c.args.writer.now) (g.W.Sink.account c.answer.new.writer) c.answer.result c.answer.ensures

pub returns-clause-admits_no_fingerprint : goal.returns-clause-admits_no_fingerprint
returns-clause-admits_no_fingerprint g c =
    fingerprint_kept_out_run (map g.S.AsStr.text c.args.words.now) (g.F.Files.source_state c.args.files.now) (g.F.Files.source_state c.answer.new.files)
    (g.W.Sink.account c.args.writer.now) (g.W.Sink.account c.answer.new.writer) c.answer.result c.answer.ensures

pub returns-clause-trusts : goal.returns-clause-trusts
returns-clause-trusts g c =
    host_trusted_run (map g.S.AsStr.text c.args.words.now) (g.F.Files.source_state c.args.files.now) (g.F.Files.source_state c.answer.new.files)
    (g.W.Sink.account c.args.writer.now) (g.W.Sink.account c.answer.new.writer) c.answer.result c.answer.ensures

pub returns-clause-trusts_none : goal.returns-clause-trusts_none
returns-clause-trusts_none g c =
    host_distrusted_run (map g.S.AsStr.text c.args.words.now) (g.F.Files.source_state c.args.files.now) (g.F.Files.source_state c.answer.new.files)
    (g.W.Sink.account c.args.writer.now) (g.W.Sink.account c.answer.new.writer) c.answer.result c.answer.ensures

pub returns-clause-rewrite : goal.returns-clause-rewrite
returns-clause-rewrite g c =
    file_rewritten_run (map g.S.AsStr.text c.args.words.now) (g.F.Files.source_state c.args.files.now) (g.F.Files.source_state c.answer.new.files)
    (g.W.Sink.account c.args.writer.now) (g.W.Sink.account c.answer.new.writer) c.answer.result c.answer.ensures

pub returns-clause-readable : goal.returns-clause-readable
returns-clause-readable g c =
    file_readable_run (map g.S.AsStr.text c.args.words.now) (g.F.Files.source_state c.args.files.now) (g.F.Files.source_state c.answer.new.files)
    (g.W.Sink.account c.args.writer.now) (g.W.Sink.account c.answer.new.writer) c.answer.result c.answer.ensures

pub returns-clause-hash : goal.returns-clause-hash
returns-clause-hash g c =
    file_hashed_run (map g.S.AsStr.text c.args.words.now) (g.F.Files.source_state c.args.files.now) (g.F.Files.source_state c.answer.new.files)
    (g.W.Sink.account c.args.writer.now) (g.W.Sink.account c.answer.new.writer) c.answer.result c.answer.ensures

pub returns-clause-review : goal.returns-clause-review
returns-clause-review g c =
    files_reviewed_run (map g.S.AsStr.text c.args.words.now) (g.F.Files.source_state c.args.files.now) (g.F.Files.source_state c.answer.new.files)
    (g.W.Sink.account c.args.writer.now) (g.W.Sink.account c.answer.new.writer) c.answer.result c.answer.ensures

pub returns-clause-review_page : goal.returns-clause-review_page
returns-clause-review_page g c =
    files_on_page_run (map g.S.AsStr.text c.args.words.now) (g.F.Files.source_state c.args.files.now) (g.F.Files.source_state c.answer.new.files)
    (g.W.Sink.account c.args.writer.now) (g.W.Sink.account c.answer.new.writer) c.answer.result c.answer.ensures

pub returns-clause-review_key : goal.returns-clause-review_key
returns-clause-review_key g c =
    key_standing_run (map g.S.AsStr.text c.args.words.now) (g.F.Files.source_state c.args.files.now) (g.F.Files.source_state c.answer.new.files)
    (g.W.Sink.account c.args.writer.now) (g.W.Sink.account c.answer.new.writer) c.answer.result c.answer.ensures

pub returns-clause-review_key_none : goal.returns-clause-review_key_none
returns-clause-review_key_none g c =
    key_nowhere_run (map g.S.AsStr.text c.args.words.now) (g.F.Files.source_state c.args.files.now) (g.F.Files.source_state c.answer.new.files)
    (g.W.Sink.account c.args.writer.now) (g.W.Sink.account c.answer.new.writer) c.answer.result c.answer.ensures
