mod CountedLines
mod Numbered
