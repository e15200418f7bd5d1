pub mod MarkedMapLemmas
