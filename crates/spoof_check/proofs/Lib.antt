pub mod ForgedLemmas
