mod TellingLemmas
mod ReportedLemmas
