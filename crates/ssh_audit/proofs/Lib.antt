mod FrontLemmas
mod ColourLemmas
