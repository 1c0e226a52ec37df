pub mod Imports
mod PartLemmas
mod DigestLemmas
mod WrittenText
mod StreamLemmas
mod PutLemmas
mod PieceLemmas
mod EvidenceText
mod VouchingLemmas
mod SshsigLemmas
mod EvidenceLemmas
pub mod GrantingLemmas
mod RewritingLemmas
mod HashingLemmas
mod ShowLemmas
mod ResponseLemmas
pub mod GrantedRunLemmas
mod PlainCommand
pub mod CommandLineLemmas
mod SubcommandLemmas
pub mod AnsweredLemmas
pub mod SourceLemmas
pub mod AuditLemmas
pub mod TextLemmas
mod ChosenLemmas
mod OthersLemmas
mod QuestionLemmas
mod NeededLemmas
mod KeptLemmas
mod LoginLemmas
mod HostLemmas
pub mod AdmissionLemmas
mod KeyLemmas
mod ByFingerprintLemmas
mod ExplainLemmas
mod FileAnswerLemmas
mod DenialLemmas
mod FileLemmas
pub mod KeySeekingLemmas
pub mod SpelledLemmas
pub mod SpelledBytes
pub mod KeyRunLemmas
pub mod FingerprintRunLemmas
pub mod SignatureRunLemmas
mod FileRunLemmas
mod WordLemmas
mod ComplaintLemmas
mod HostPortLemmas
mod NameListLemmas
mod FilesFromLemmas
mod GuidanceLemmas
mod FingerprintLemmas
mod KeyStandingLemmas
mod ZoneLemmas
pub mod PageLemmas
mod ReviewFormLemmas
mod PageRunLemmas
mod PageTotalLemmas
mod NamingLemmas
