mod Prompts
mod JobsEnd
mod SilentCalls
mod LongestSilence
mod HeardCalls
