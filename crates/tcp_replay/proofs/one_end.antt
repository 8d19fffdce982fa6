-- ONE END by itself, whoever its peer is: what each call, arrival and emission keeps, and the theorem of one end.
pub mod Phases
pub mod Room
pub mod Feeds
pub mod Judgements
pub mod Alone
pub mod AloneCalls
pub mod AloneFeeds
pub mod Dues
pub mod AloneEmissions
pub mod SoloRuns
pub mod SoloLogs
