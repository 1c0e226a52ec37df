-- The models of the names of files in memory.
use Rattle.std.specs.Prelude.{option_map}
use Rattle.ssh_program.specs.FileNames.{AuditFiles as FileNames, SshsigQuestion as Question}
use Rattle.ssh_program.specs.declared.admits.AuditFiles.{AuditFiles}
use Rattle.ssh_program.specs.declared.admits.SshsigQuestion.{SshsigQuestion}

-- the names as bytes
abbrev pub files_seen : AuditFiles → FileNames
files_seen f = record { trust = f.trust.now; vouch = option_map (λ s. s.now) f.vouch }

abbrev pub question_of : SshsigQuestion → Question
question_of q = record { body = q.body.now; message = q.message.now; namespace = q.namespace.now; vouch = option_map (λ s. s.now) q.vouch }
