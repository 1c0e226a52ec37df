use Rattle.ssh_files.proofs.Imports.{empty_principals_read, hex_read, hex_refused, numbers_read, numbers_refused, salts_read, zone_texts}
use Rattle.ssh_files.proofs.samples.values_as_read.Goals as goal

pub returns : goal.returns
returns c = record { hex = hex_read; no_hex = hex_refused; numbers = numbers_read; no_numbers = numbers_refused; zones = zone_texts; empty_principals = empty_principals_read; salts = salts_read }
